-- A part comes below a path at which there is at most one node, and none below: its nodes are appended to those that are there.
use Rattle.std.proofs.Common.{◌≡◌, Bool, true, false, ◌&&◌, not, cond, List, ◌++◌, refl, sym, ap, subst, ◌∙◌, Option, Some, None, true≢false}
use Rattle.std.specs.Cmp.{eq_by_cmp_equiv}
use Rattle.std.specs.Map.{keys_of, update_all}
use Rattle.std.specs.Option.{is_some, option_or}
use Rattle.std.specs.Ordering.{eq_by_cmp}
use Rattle.std.proofs.lemmas.Map.Keys.{IsDistinct-from_sorted}
use Rattle.std.proofs.lemmas.Map.Made.{update_all_distinct}
use Rattle.svn_types.specs.Names.{Path, path_cmp}
use Rattle.svn_types.specs.Paths.{path_eq, is_within, is_below}
use Rattle.svn_types.proofs.PathLemmas.{same_path, is_within-same}
use Rattle.svn_types.proofs.PathsInOrder.{paths_total}
use Rattle.svn_model.specs.declared.base_node.BaseNode.{BaseNode}
use Rattle.svn_model.specs.Nodes.{WorkingCopy, get_in, InPathOrder}
use Rattle.law_copy.proofs.Lookups.{get_in-append}
use Rattle.svn_nodes.proofs.NodeRanges.{order_before}
use Rattle.svn_nodes.proofs.Replacing.{same_nodes}

-- nodes in path order that are put over others one after the other
put_over : (f : WorkingCopy) (xs : List (Path × BaseNode)) → InPathOrder xs → (p : Path)
    → update_all (eq_by_cmp path_cmp) f xs p ≡ option_or (get_in xs p) (f p)
put_over f xs order p =
    update_all_distinct (eq_by_cmp_equiv paths_total) (eq_by_cmp path_cmp) (λ x y. refl) f xs p
    (IsDistinct-from_sorted path_cmp (keys_of xs) order)

or_none : (o : Option BaseNode) → option_or o None ≡ o
or_none None = refl
or_none (Some n) = refl

first_none : (a b : Option BaseNode) → option_or a b ≡ None → a ≡ None
first_none None b h = refl
first_none (Some n) b h = absurd (true≢false (ap is_some h))

-- ---- a part comes below a path

module _ (at : Path) (old : List (Path × BaseNode)) (free : (p : Path) → is_below at p ≡ true → get_in old p ≡ None) where
  -- nodes below the path went, and elsewhere nothing changed
  pub back_again : (w1 w2 : List (Path × BaseNode)) → InPathOrder old → InPathOrder w2
      → ((p : Path) → is_below at p ≡ false → get_in w1 p ≡ get_in old p)
      → ((p : Path) → get_in w2 p ≡ cond (is_below at p) None (get_in w1 p)) → w2 ≡ old
  back_again w1 w2 o o2 others gone = same_nodes w2 old o2 o (λ p. gone p ∙ by p (is_below at p) refl)
    where
      by : (p : Path) (b : Bool) → is_below at p ≡ b → cond b None (get_in w1 p) ≡ get_in old p
      by p true h = sym (free p h)
      by p false h = others p h

  module _ (part : List (Path × BaseNode)) (below : (p : Path) → is_below at p ≡ false → get_in part p ≡ None) where
    pub all_moved : InPathOrder part → (new : List (Path × BaseNode))
        → ((p : Path) → get_in new p ≡ update_all (eq_by_cmp path_cmp) (get_in old) part p) → (p : Path)
        → get_in new p ≡ cond (is_below at p) (get_in part p) (get_in old p)
    all_moved order new put p = put p ∙ put_over (get_in old) part order p ∙ by (is_below at p) refl
      where
        by : (b : Bool) → is_below at p ≡ b → option_or (get_in part p) (get_in old p) ≡ cond b (get_in part p) (get_in old p)
        by true h = ap (option_or (get_in part p)) (free p h) ∙ or_none (get_in part p)
        by false h = ap (λ o. option_or o (get_in old p)) (below p h)

    -- where some were moved, nothing changed elsewhere
    pub others_stay : InPathOrder part → (xs rest new : List (Path × BaseNode)) → part ≡ xs ++ rest
        → ((p : Path) → get_in new p ≡ update_all (eq_by_cmp path_cmp) (get_in old) xs p) → (p : Path) → is_below at p ≡ false
        → get_in new p ≡ get_in old p
    others_stay order xs rest new parts put p out =
        put p ∙ put_over (get_in old) xs (order_before xs rest (subst InPathOrder parts order)) p
        ∙ ap (λ o. option_or o (get_in old p)) (first_none (get_in xs p) (get_in rest p)
        (sym (get_in-append xs rest p) ∙ ap (λ (l : List (Path × BaseNode)). get_in l p) (sym parts) ∙ below p out))

-- ---- a part comes at a path, where one node may be

module _ (at : Path) (old part : List (Path × BaseNode)) (within : (p : Path) → is_within at p ≡ false → get_in part p ≡ None)
    (rest : List (Path × BaseNode)) (without : (p : Path) → get_in rest p ≡ cond (path_eq at p) None (get_in part p)) where
  -- but for its node at the path, all are below it
  pub rest_below : (p : Path) → is_below at p ≡ false → get_in rest p ≡ None
  rest_below p out = without p ∙ by (path_eq at p) (is_within at p) refl out
    where
      by : (same w : Bool) → is_within at p ≡ w → (w && not same) ≡ false → cond same None (get_in part p) ≡ None
      by true w h out = refl
      by false true h out = absurd (true≢false out)
      by false false h out = within p h

  -- they were moved, and then its node at the path was put there
  pub all_there : (w1 w2 : List (Path × BaseNode)) (own : Option BaseNode) → own ≡ get_in part at
      → ((p : Path) → get_in w1 p ≡ cond (is_below at p) (get_in rest p) (get_in old p))
      → ((p : Path) → get_in w2 p ≡ cond (path_eq at p) own (get_in w1 p)) → (p : Path)
      → get_in w2 p ≡ cond (is_within at p) (get_in part p) (get_in old p)
  all_there w1 w2 own is moved put p =
      put p ∙ (λ i. cond (path_eq at p) (is i) (moved p i))
      ∙ ap (λ o. cond (path_eq at p) (get_in part at) (cond (is_below at p) o (get_in old p))) (without p) ∙ by (path_eq at p) refl
    where
      by : (same : Bool) → path_eq at p ≡ same
          → cond same (get_in part at) (cond (is_within at p && not same) (cond same None (get_in part p)) (get_in old p))
          ≡ cond (is_within at p) (get_in part p) (get_in old p)
      by true h = ap (get_in part) (same_path at p h)
          ∙ ap (λ b. cond b (get_in part p) (get_in old p)) (sym (ap (is_within at) (sym (same_path at p h)) ∙ is_within-same at))
      by false h = ap (λ b. cond b (get_in part p) (get_in old p)) (off (is_within at p))
        where
          off : (b : Bool) → (b && true) ≡ b
          off true = refl
          off false = refl
