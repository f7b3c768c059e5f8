-- A list of nodes without a fault has the shape of a copy.
use Rattle.std.proofs.Common.{◌≡◌, ◌≢◌, ◌+◌, ◌≤◌, Bool, true, false, ◌&&◌, not, List, [], ◌∷◌, length, refl, sym, ◌∙◌, ap, subst}
use Rattle.std.proofs.Common.{true≢false}
use Rattle.std.specs.Prelude.{Option, Some, None, cond, nat_lt}
use Rattle.std.specs.List.{list_any}
use Rattle.std.proofs.lemmas.Bool.{or_parts, ltb-false, not-false}
use Rattle.svn_lists.proofs.Options.{cond_none}
use Rattle.svn_types.specs.Names.{Path}
use Rattle.svn_types.specs.Paths.{path_eq, child, parent}
use Rattle.svn_types.specs.Limits.{path_limit}
use Rattle.svn_types.proofs.NameLemmas.{Name}
use Rattle.svn_types.proofs.PathLemmas.{same_path, parent-child, is_root-child}
use Rattle.svn_model.specs.declared.base_node.BaseNode.{BaseNode}
use Rattle.svn_model.specs.declared.wc_fault.WcFault.TheVariants.{TooDeep, NoParent, Twice, BadRoot}
use Rattle.svn_model.specs.Nodes.{WorkingCopy, get_in, IsWorkingCopy, is_present, is_dir, node_path}
use Rattle.svn_model.specs.Refusals.{has_twice, is_orphan, is_too_deep, is_node_too_deep, nodes_fault}
use Rattle.law_copy.specs.Laws.{EndsNamed}
use Rattle.law_copy.specs.CopyLaws.{AllEndNamed, nodes_make_a_copy}
use Rattle.law_copy.proofs.NodeLists.{get_in-first}

-- a test that no element meets is met by nothing that is found
none_found : (f : Path × BaseNode → Bool) (es : List (Path × BaseNode)) → list_any f es ≡ false → (p : Path) (b : BaseNode)
    → get_in es p ≡ Some b → f (p, b) ≡ false
none_found f [] h p b g = absurd (none g)
  where
    none : None ≡ Some b → ⊥
    none q = cc
none_found f (e ∷ es) h p b g =
    by (path_eq e.0 p) refl (sym (get_in-first e es p) ∙ g) (λ k. none_found f es (or_parts (f e) (list_any f es) h).1 p b k)
  where
    parts : (f e ≡ false) × (list_any f es ≡ false)
    parts = or_parts (f e) (list_any f es) h

    by : (t : Bool) → path_eq e.0 p ≡ t → cond t (Some e.1) (get_in es p) ≡ Some b → (get_in es p ≡ Some b → f (p, b) ≡ false)
        → f (p, b) ≡ false
    by true q k ih =
        let one = same_path e.0 p q in
        let two : e.1 ≡ b = cc in
        sym (λ i. f (one i, two i)) ∙ parts.0
    by false q k ih = ih k

named_found : (es : List (Path × BaseNode)) → AllEndNamed es → (p : Path) (b : BaseNode) → get_in es p ≡ Some b → EndsNamed p
named_found [] h p b g = absurd (none g)
  where
    none : None ≡ Some b → ⊥
    none q = cc
named_found (e ∷ es) h p b g = by (path_eq e.0 p) refl (sym (get_in-first e es p) ∙ g) (named_found es h.1 p b)
  where
    by : (t : Bool) → path_eq e.0 p ≡ t → cond t (Some e.1) (get_in es p) ≡ Some b → (get_in es p ≡ Some b → EndsNamed p) → EndsNamed p
    by true q k ih = subst EndsNamed (same_path e.0 p q) h.0
    by false q k ih = ih k

module _ (nodes : List (Path × BaseNode)) (named : AllEndNamed nodes) (none : nodes_fault nodes ≡ None) where
  abbrev w : WorkingCopy
  w = get_in nodes

  second : (not (is_dir (w [])) ≡ false)
      × (cond (list_any (is_orphan w) nodes) (Some NoParent) (cond (list_any is_node_too_deep nodes) (Some TooDeep) None) ≡ None)
  second = cond_none (not (is_dir (w []))) BadRoot _ (cond_none (has_twice nodes) Twice _ none).1

  third : (list_any (is_orphan w) nodes ≡ false) × (cond (list_any is_node_too_deep nodes) (Some TooDeep) None ≡ None)
  third = cond_none (list_any (is_orphan w) nodes) NoParent _ second.1

  deep : list_any is_node_too_deep nodes ≡ false
  deep = (cond_none (list_any is_node_too_deep nodes) TooDeep None third.1).0

  -- what is somewhere
  some_node : (p : Path) → w p ≢ None → (b : BaseNode) × (w p ≡ Some b)
  some_node p some = by (w p) refl
    where
      by : (o : Option BaseNode) → w p ≡ o → (b : BaseNode) × (w p ≡ Some b)
      by None e = absurd (some e)
      by (Some b) e = (b, e)

  above : (p : Path) (name : Name) → w (child p name) ≢ None → is_dir (w p) ≡ true
  above p name some =
      let b = some_node (child p name) some in
      let orphan = none_found (is_orphan w) nodes third.0 (child p name) b.0 b.1 in
      not-false (is_dir (w p))
      (ap (λ q. not (is_dir (w q))) (sym (parent-child p name))
      ∙ ap (λ x. not x && not (is_dir (w (parent (child p name))))) (sym (is_root-child p name)) ∙ orphan)

  short : (p : Path) → is_present (w p) ≡ true
      → (length (node_path (w p)) ≤ path_limit) × (length p ≤ path_limit + length (node_path (w p)))
  short p present =
      let b = some_node p (λ e. true≢false (sym present ∙ ap is_present e)) in
      let test = none_found is_node_too_deep nodes deep p b.0 b.1 in
      let not_deep : is_too_deep p (node_path (w p)) ≡ false =
      ap (λ x. x && is_too_deep p (node_path (w p))) (sym present) ∙ ap (λ o. is_present o && is_too_deep p (node_path o)) b.1 ∙ test in
      let parts =
      or_parts (nat_lt path_limit (length (node_path (w p)))) (nat_lt (path_limit + length (node_path (w p))) (length p)) not_deep in
      (ltb-false path_limit (length (node_path (w p))) parts.0, ltb-false (path_limit + length (node_path (w p))) (length p) parts.1)

  pub listed_shape : IsWorkingCopy w
  listed_shape = record {
    root = not-false (is_dir (w [])) second.0;
    parents = above;
    names = λ p name some. let b = some_node (child p name) some in named_found nodes named (child p name) b.0 b.1 p name refl;
    repos_paths = λ p present. (short p present).0;
    paths = λ p present. (short p present).1;
  }

pub makes_copy : nodes_make_a_copy
makes_copy nodes named none = listed_shape nodes named none
