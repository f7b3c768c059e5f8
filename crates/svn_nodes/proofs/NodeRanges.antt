-- Ranges of nodes in path order, and how one is gone through from the last node back.
use Rattle.std.proofs.Common.{◌≡◌, true, false, ◌&&◌, not, cond, List, [], ◌∷◌, ◌++◌, length, refl, sym, ap, subst, ◌∙◌, Option, Some, None}
use Rattle.std.proofs.Math.Seq.{take-append_seam}
use Rattle.std.specs.Option.{is_some, option_or}
use Rattle.std.specs.BTreeMap.{is_at}
use Rattle.std.specs.BTreeMap.Range.{entries_between, range_contains}
use Rattle.std.specs.declared.ops.Bound.{Bound}
use Rattle.std.specs.declared.ops.Bound.TheVariants.{Included, Unbounded}
use Rattle.std.specs.declared.cmp.Ordering.TheVariants.{Less}
use Rattle.std.specs.Ordering.{ordering_then, is_lt}
use Rattle.std.proofs.lemmas.Map.Entries.{lookup-filter-keys}
use Rattle.svn_types.specs.Names.{Path, path_cmp}
use Rattle.svn_types.specs.Paths.{path_eq, parent, is_within}
use Rattle.svn_types.proofs.NameLemmas.{name_cmp-same}
use Rattle.svn_types.proofs.PathsInOrder.{not_before_itself, not_both, before_apart, within_after}
use Rattle.svn_types.proofs.PathLemmas.{same_path}
use Rattle.svn_model.specs.declared.base_node.BaseNode.{BaseNode}
use Rattle.svn_model.specs.Nodes.{get_in, InPathOrder}
use Rattle.law_copy.proofs.Lookups.{at_path, get_in-append}
use Rattle.law_copy.proofs.NodeLists.{found_first, get_in-first}
use Rattle.svn_nodes.proofs.NodeOrder.{before_behind}
use Rattle.svn_nodes.proofs.Ranges.{order_run}

-- the first of the nodes are in order
pub order_before : (xs ys : List (Path × BaseNode)) → InPathOrder (xs ++ ys) → InPathOrder xs
order_before xs ys order = subst InPathOrder (take-append_seam xs ys) (order_run (xs ++ ys) 0 (length xs) order)

-- a path isn't before the one above it
not_before_above : (p : Path) → is_lt (path_cmp p (parent p)) ≡ false
not_before_above [] = refl
not_before_above (m ∷ []) = refl
not_before_above (m ∷ n ∷ p) =
    ap (λ o. is_lt (ordering_then o (path_cmp (n ∷ p) (parent (n ∷ p))))) (name_cmp-same m) ∙ not_before_above (n ∷ p)

-- what is at a path in a range is in the range
pub get_in-between : (lo hi : Bound Path) (es : List (Path × BaseNode)) (p : Path) → range_contains path_cmp lo hi p ≡ true
    → get_in (entries_between path_cmp lo hi es) p ≡ get_in es p
get_in-between lo hi es p inside =
    lookup-filter-keys (is_at (path_cmp p)) (range_contains path_cmp lo hi) true
    (λ k h. ap (range_contains path_cmp lo hi) (sym (same_path p k (sym (at_path p k) ∙ h))) ∙ inside) es

-- what is above a path is among the nodes up to the path
pub above_among : (es : List (Path × BaseNode)) (p : Path)
    → get_in (entries_between path_cmp Unbounded (Included p) es) (parent p) ≡ get_in es (parent p)
above_among es p = get_in-between Unbounded (Included p) es (parent p) (ap not (not_before_above p))

-- what is at a path or below is among the nodes from the path on
pub within_from : (at : Path) (es : List (Path × BaseNode)) (p : Path) → is_within at p ≡ true
    → get_in (entries_between path_cmp (Included at) Unbounded es) p ≡ get_in es p
within_from at es p within =
    get_in-between (Included at) Unbounded es p (ap (λ b. b && not false) (within_after at p within))

module _ (xs : List (Path × BaseNode)) (e : Path × BaseNode) where
  last_or : (p : Path) → get_in (xs ++ e ∷ []) p ≡ option_or (get_in xs p) (cond (path_eq e.0 p) (Some e.1) None)
  last_or p = get_in-append xs (e ∷ []) p ∙ ap (option_or (get_in xs p)) (get_in-first e [] p)

  -- what is elsewhere than at the last path is among the others
  pub not_last : (p : Path) → path_eq e.0 p ≡ false → get_in (xs ++ e ∷ []) p ≡ get_in xs p
  not_last p other = last_or p ∙ ap (λ b. option_or (get_in xs p) (cond b (Some e.1) None)) other ∙ or_none (get_in xs p)
    where
      or_none : (o : Option BaseNode) → option_or o None ≡ o
      or_none None = refl
      or_none (Some n) = refl

  module _ (order : InPathOrder (xs ++ e ∷ [])) where
    none_from : (p : Path) → (path_cmp p e.0 ≡ Less → ⊥) → (o : Option BaseNode) → get_in xs p ≡ o → o ≡ None
    none_from p after None h = refl
    none_from p after (Some n) h = absurd (after (before_behind xs (e ∷ []) order p e.0 (ap is_some h) (ap is_some (found_first e []))))

    pub last_found : get_in (xs ++ e ∷ []) e.0 ≡ Some e.1
    last_found =
        get_in-append xs (e ∷ []) e.0
        ∙ ap (λ o. option_or o (get_in (e ∷ []) e.0)) (none_from e.0 (not_before_itself e.0) (get_in xs e.0) refl) ∙ found_first e []

    -- nothing is after the last path
    pub none_behind : (p : Path) → path_cmp e.0 p ≡ Less → get_in (xs ++ e ∷ []) p ≡ None
    none_behind p before = not_last p (before_apart e.0 p before) ∙ none_from p (not_both e.0 p before) (get_in xs p) refl
