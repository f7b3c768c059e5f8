-- The nodes after a path and those below it, in path order: the next one is below it too exactly where it has more names.
use Rattle.std.proofs.Common.{◌≡◌, ℕ, ◌-◌, ◌<◌, ◌≤◌, Bool, true, false, cond, List, [], ◌∷◌, ◌++◌, length, refl, sym, ap, subst}
use Rattle.std.proofs.Common.{◌∙◌, Option, Some, None, true≢false, arith, append_assoc, length-append}
use Rattle.std.specs.Prelude.{slice_get}
use Rattle.std.specs.Option.{is_some, option_or, option_copied}
use Rattle.std.specs.Borrow.{Bor}
use Rattle.std.specs.BTreeMap.{is_at}
use Rattle.std.specs.declared.cmp.Ordering.TheVariants.{Less}
use Rattle.std.proofs.lemmas.List.{append-nil}
use Rattle.svn_lists.proofs.Options.{option_or_some}
use Rattle.svn_lists.proofs.Parts.{cut_at}
use Rattle.svn_lists.proofs.Places.{empty_from_no_last}
use Rattle.svn_types.specs.Names.{Path, path_cmp}
use Rattle.svn_types.specs.Paths.{is_within, is_below, parent, child}
use Rattle.svn_types.proofs.PathsInOrder.{not_before_itself, not_both, below_after, within_between}
use Rattle.svn_types.proofs.PathLemmas.{below_parts, split_within, is_within-chain, same_path, parent-child, split_at_last}
use Rattle.svn_model.specs.declared.base_node.BaseNode.{BaseNode}
use Rattle.svn_model.specs.Nodes.{get_in, InPathOrder, IsWorkingCopy, is_dir}
use Rattle.law_copy.proofs.CrawlReports.{directory_above}
use Rattle.law_copy.proofs.Lookups.{at_path, get_in-append}
use Rattle.svn_nodes.proofs.NodeOrder.{at_first, first_or_after, before_behind, order_behind}
use Rattle.svn_wc.specs.Truths.{all_below, IsPast, IsNoDeeper, IsNameBelow, IsLastName}
use Rattle.svn_wc.proofs.Ancestors.{dir_some}
use Rattle.svn_wc.proofs.Truly.{found_below, below_extended}

-- ---- paths

-- a path within another that has no more names is that one
pub within_as_long : (p q : Path) → is_within p q ≡ true → length q ≤ length p → q ≡ p
within_as_long p q within short = let parts = split_within p q within in by parts.0 parts.1
  where
    by : (r : Path) → q ≡ p ++ r → q ≡ p
    by [] is = is ∙ append-nil p
    by (name ∷ r) is = let long = ap length is ∙ length-append p (name ∷ r) in absurd (omega arith)

-- the last name of a path that has one name more than that
pub last_told : (depth : ℕ) (q : Path) (name : Option (List ℕ)) → depth < length q → length q - depth ≡ 1
    → name ≡ slice_get q (length q - 1) → IsLastName depth q name
last_told depth q None deeper one is =
    let empty : length q ≡ 0 = ap length (empty_from_no_last q (sym is)) in absurd (omega (arith, empty))
last_told depth q (Some n) deeper one is = (omega arith, split_at_last q n (sym is))

pub no_last_told : (depth : ℕ) (q : Path) (name : Option (List ℕ)) → (length q - depth ≡ 1 → ⊥) → name ≡ None → IsLastName depth q name
no_last_told depth q None other is = λ one. other (omega (arith, one))
no_last_told depth q (Some n) other is = absurd (true≢false (ap is_some is))

-- a path with one name more that is within another is that one with its last name
pub name_told : (p q : Path) (depth : ℕ) → depth ≡ length p → is_within p q ≡ true → (name : Option (Bor (List ℕ)))
    → IsLastName depth q (option_copied name) → IsNameBelow p q (option_copied name)
name_told p q depth is_depth within None other = λ name is.
    let long = ap length is ∙ length-append p (name ∷ []) in other (omega (arith, long, is_depth))
name_told p q depth is_depth within (Some name) last = by parts.0 parts.1
  where
    parts : (r : Path) × (q ≡ p ++ r)
    parts = split_within p q within

    by : (r : Path) → q ≡ p ++ r → q ≡ child p name.now
    by [] is = let long = ap length is ∙ length-append p [] in absurd (omega (arith, long, last.0, is_depth))
    by (x ∷ []) is =
        last.1 ∙ ap (λ (f : Path). child f name.now) (ap parent is ∙ parent-child p x)
    by (x ∷ y ∷ r) is = let long = ap length is ∙ length-append p (x ∷ y ∷ r) in absurd (omega (arith, long, last.0, is_depth))

-- ---- nodes

-- the nodes that are left, among all
pub in_all : (nodes before : List (Path × BaseNode)) (e : Path × BaseNode) (old taken left : List (Path × BaseNode))
    → nodes ≡ before ++ e ∷ old → old ≡ taken ++ left → nodes ≡ before ++ e ∷ (taken ++ left)
in_all nodes before e old taken left whole parts = whole ∙ ap (λ l. before ++ e ∷ l) parts

module _ (nodes : List (Path × BaseNode)) (order : InPathOrder nodes) (before : List (Path × BaseNode)) (e : Path × BaseNode)
    (taken : List (Path × BaseNode)) (below : all_below e.0 taken ≡ true) (depth : ℕ) (is_depth : depth ≡ length e.0) where
  module _ (c : Path × BaseNode) (left : List (Path × BaseNode)) (whole : nodes ≡ before ++ e ∷ (taken ++ c ∷ left)) where
    in_order : InPathOrder (before ++ e ∷ (taken ++ c ∷ left))
    in_order = subst InPathOrder whole order

    abbrev front : List (Path × BaseNode)
    front = before ++ e ∷ taken

    cut : InPathOrder (front ++ c ∷ left)
    cut = subst InPathOrder (sym (append_assoc before (e ∷ taken) (c ∷ left))) in_order

    in_parts : (p : Path) → get_in nodes p ≡ option_or (get_in front p) (get_in (c ∷ left) p)
    in_parts p =
        ap (λ l. get_in l p) (whole ∙ sym (append_assoc before (e ∷ taken) (c ∷ left))) ∙ get_in-append front (c ∷ left) p

    own_earlier : path_cmp e.0 c.0 ≡ Less
    own_earlier =
        before_behind (e ∷ taken) (c ∷ left) (order_behind before (e ∷ taken ++ c ∷ left) in_order) e.0 c.0
        (ap is_some (at_first e taken)) (ap is_some (at_first c left))

    -- what is above the next node, with as many names as the path, is the path
    module _ (q : Path) (above : is_within q c.0 ≡ true) (earlier : path_cmp q c.0 ≡ Less) (as_long : length q ≡ length e.0) where
      from_before : is_some (get_in before q) ≡ true → is_within e.0 c.0 ≡ true
      from_before some =
          let sooner : path_cmp q e.0 ≡ Less =
          before_behind before (e ∷ taken ++ c ∷ left) in_order q e.0 some (ap is_some (at_first e (taken ++ c ∷ left))) in
          let same : e.0 ≡ q =
          within_as_long q e.0 (within_between q e.0 c.0 sooner (λ less. not_both e.0 c.0 own_earlier less) above)
          (omega (arith, as_long)) in
          ap (λ (p : Path). is_within p c.0) same ∙ above

      from_taken : (b : Bool) → is_at (path_cmp q) e.0 ≡ b → is_some (cond b (Some e.1) (get_in taken q)) ≡ true → is_within e.0 c.0 ≡ true
      from_taken true at some =
          ap (λ (p : Path). is_within p c.0) (sym (same_path q e.0 (sym (at_path q e.0) ∙ at))) ∙ above
      from_taken false at some =
          is_within-chain e.0 q c.0 (below_parts e.0 q (found_below e.0 taken q below some)).0 above

      from_front : (o : Option BaseNode) → get_in before q ≡ o → is_some (option_or o (get_in (e ∷ taken) q)) ≡ true
          → is_within e.0 c.0 ≡ true
      from_front (Some n) is some = from_before (ap is_some is)
      from_front None is some = from_taken (is_at (path_cmp q) e.0) refl some

      from_all : (o : Option BaseNode) → get_in front q ≡ o → is_some (option_or o (get_in (c ∷ left) q)) ≡ true → is_within e.0 c.0 ≡ true
      from_all (Some n) is some =
          from_front (get_in before q) refl (ap is_some (sym (get_in-append before (e ∷ taken) q) ∙ is))
      from_all None is some =
          absurd (first_or_after ⊥ c left (order_behind front (c ∷ left) cut) q some
          (λ same. not_before_itself q (ap (path_cmp q) same ∙ earlier)) (λ after. not_both q c.0 earlier after))

    -- with more names than the path, it is below it, since a directory is above it there
    pub deeper_is_within : IsWorkingCopy (get_in nodes) → depth < length c.0 → is_within e.0 c.0 ≡ true
    deeper_is_within shape deeper =
        let up = cut_at depth c.0 deeper in
        let q : Path = up.0 in
        let below_q : is_below q c.0 ≡ true = subst (λ (p : Path). is_below q p ≡ true) (sym up.3) (below_extended q up.1 up.2) in
        let parts = below_parts q c.0 below_q in
        let stands : is_some (get_in nodes c.0) ≡ true =
        ap is_some (in_parts c.0) ∙ option_or_some (get_in front c.0) (get_in (c ∷ left) c.0) (ap is_some (at_first c left)) in
        let dir : is_dir (get_in nodes q) ≡ true =
        directory_above (get_in nodes) shape q c.0 below_q (λ none. true≢false (sym stands ∙ ap is_some none)) in
        from_all q parts.0 (below_after q c.0 parts.0 parts.1) (up.4 ∙ is_depth) (get_in front q) refl
        (sym (ap is_some (in_parts q)) ∙ dir_some (get_in nodes q) dir)

  -- with no more names, it is past all that is below
  pub no_deeper_is_past : (left : List (Path × BaseNode)) → nodes ≡ before ++ e ∷ (taken ++ left) → IsNoDeeper depth left
      → IsPast e.0 left
  no_deeper_is_past [] whole short = tt
  no_deeper_is_past (c ∷ left) whole short = by (is_within e.0 c.0) refl
    where
      by : (b : Bool) → is_within e.0 c.0 ≡ b → b ≡ false
      by false within = refl
      by true within =
          let same : c.0 ≡ e.0 = within_as_long e.0 c.0 within (omega (arith, short, is_depth)) in
          absurd (not_before_itself e.0 (ap (path_cmp e.0) (sym same) ∙ own_earlier c left whole))
