-- Lists of nodes in any order, each path once: what is gathered from one is what it has.
use Rattle.std.proofs.Common.{◌≡◌, Bool, true, false, cond, List, [], ◌∷◌, refl, sym, ap, ◌∙◌, Option, Some, None}
use Rattle.std.specs.List.{list_any}
use Rattle.std.specs.Map.{update, update_all}
use Rattle.std.specs.Option.{option_or}
use Rattle.std.specs.Ordering.{eq_by_cmp}
use Rattle.std.proofs.lemmas.Bool.{or_parts}
use Rattle.std.proofs.lemmas.Map.{update_same, update_other}
use Rattle.svn_types.specs.Names.{Path, path_cmp}
use Rattle.svn_types.specs.Paths.{path_eq}
use Rattle.svn_types.proofs.PathLemmas.{same_path, path_eq-symm}
use Rattle.svn_model.specs.declared.base_node.BaseNode.{BaseNode}
use Rattle.svn_model.specs.Nodes.{WorkingCopy, get_in}
use Rattle.svn_model.specs.Refusals.{is_of, has_twice}
use Rattle.law_copy.proofs.Lookups.{at_path}
use Rattle.law_copy.proofs.NodeLists.{get_in-first}
use Rattle.svn_nodes.specs.Gathered.{gathered}

absent : (q : Path) (xs : List (Path × BaseNode)) → list_any (is_of q) xs ≡ false → get_in xs q ≡ None
absent q [] h = refl
absent q (x ∷ xs) h =
    get_in-first x xs q ∙ ap (λ b. cond b (Some x.1) (get_in xs q)) (path_eq-symm x.0 q ∙ parts.0) ∙ absent q xs parts.1
  where
    parts : (path_eq q x.0 ≡ false) × (list_any (is_of q) xs ≡ false)
    parts = or_parts (path_eq q x.0) (list_any (is_of q) xs) h

abbrev set_over : WorkingCopy → Path × BaseNode → WorkingCopy
set_over f x = update (eq_by_cmp path_cmp) f x.0 (Some x.1)

gathered_over : (f : WorkingCopy) (xs : List (Path × BaseNode)) → has_twice xs ≡ false → (p : Path)
    → update_all (eq_by_cmp path_cmp) f xs p ≡ option_or (get_in xs p) (f p)
gathered_over f [] h p = refl
gathered_over f (x ∷ xs) h p = gathered_over (set_over f x) xs parts.1 p ∙ by (path_eq x.0 p) refl
  where
    parts : (list_any (is_of x.0) xs ≡ false) × (has_twice xs ≡ false)
    parts = or_parts (list_any (is_of x.0) xs) (has_twice xs) h

    first : (t : Bool) → path_eq x.0 p ≡ t → cond t (Some x.1) (get_in xs p) ≡ get_in (x ∷ xs) p
    first t s = sym (get_in-first x xs p ∙ ap (λ b. cond b (Some x.1) (get_in xs p)) s)

    by : (t : Bool) → path_eq x.0 p ≡ t → option_or (get_in xs p) (set_over f x p) ≡ option_or (get_in (x ∷ xs) p) (f p)
    by true s =
        ap (λ o. option_or o (set_over f x p)) (ap (get_in xs) (sym (same_path x.0 p s)) ∙ absent x.0 xs parts.0)
        ∙ update_same (eq_by_cmp path_cmp) f x.0 (Some x.1) p (at_path x.0 p ∙ s)
        ∙ ap (λ o. option_or o (f p)) (first true s)
    by false s =
        ap (option_or (get_in xs p)) (update_other (eq_by_cmp path_cmp) f x.0 (Some x.1) p (at_path x.0 p ∙ s))
        ∙ ap (λ o. option_or o (f p)) (first false s)

pub gathered_once : (xs : List (Path × BaseNode)) → has_twice xs ≡ false → (p : Path) → gathered xs p ≡ get_in xs p
gathered_once xs h p = gathered_over (λ q. None) xs h p ∙ or_none (get_in xs p)
  where
    or_none : (o : Option BaseNode) → option_or o None ≡ o
    or_none None = refl
    or_none (Some n) = refl
