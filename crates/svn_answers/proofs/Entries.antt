-- The entry that a folder is of the directory above it.
use Rattle.std.proofs.Common.{◌≡◌, ◌≢◌, ◌∙◌, ℕ, zero, suc, ◌+◌, ◌<◌, List, [], ◌∷◌, ◌++◌, refl, sym, ap, subst, take, length, get_or, arith, true, false, Option, Some, None, Result, Ok, Err, Bool}
use Rattle.std.specs.Prelude.{if◌then◌else◌}
use Rattle.std.proofs.lemmas.Option.{same_Some}
use Rattle.std.proofs.Common.{add-one}
use Rattle.svn_lists.proofs.Options.{some-none}
use Rattle.svn_types.specs.Names.{Path}
use Rattle.svn_types.specs.Paths.{path_eq, parent, parent_path, last_name}
use Rattle.svn_types.proofs.PathLemmas.{same_path, path_eq_from}
use Rattle.svn_model.specs.declared.base_node.BaseNode.{BaseNode}
use Rattle.svn_model.specs.Nodes.{get_in}
use Rattle.svn_answers.specs.Entries.{first_name, entry_by}

-- ---- the node at the root of a list, found one by one

no_root : (m : List ℕ) (p : Path) → m ∷ p ≡ [] → ⊥
no_root m p is = let none : ⊥ = cc in none

pub found_at : (nodes : List (Path × BaseNode)) (i : ℕ) (d : Path × BaseNode) → i < length nodes → get_in (take i nodes) [] ≡ None
    → (get_or nodes i d).0 ≡ [] → get_in nodes [] ≡ Some (get_or nodes i d).1
found_at [] i d within none root = absurd (omega (arith, within))
found_at (([], n) ∷ nodes) zero d within none root = refl
found_at ((m ∷ p, n) ∷ nodes) zero d within none root = absurd (no_root m p root)
found_at (([], n) ∷ nodes) (suc i) d within none root = absurd (some-none n none)
found_at ((m ∷ p, n) ∷ nodes) (suc i) d within none root = found_at nodes i d (omega (arith, within)) none root

pub skipped_at : (nodes : List (Path × BaseNode)) (i : ℕ) (d : Path × BaseNode) → i < length nodes → get_in (take i nodes) [] ≡ None
    → (get_or nodes i d).0 ≢ [] → get_in (take (suc i) nodes) [] ≡ None
skipped_at [] i d within none other = absurd (omega (arith, within))
skipped_at (([], n) ∷ nodes) zero d within none other = absurd (other refl)
skipped_at ((m ∷ p, n) ∷ nodes) zero d within none other = refl
skipped_at (([], n) ∷ nodes) (suc i) d within none other = absurd (some-none n none)
skipped_at ((m ∷ p, n) ∷ nodes) (suc i) d within none other = skipped_at nodes i d (omega (arith, within)) none other

pub skipped_next : (nodes : List (Path × BaseNode)) (i : ℕ) (d : Path × BaseNode) → i < length nodes → get_in (take i nodes) [] ≡ None
    → (get_or nodes i d).0 ≢ [] → get_in (take (i + 1) nodes) [] ≡ None
skipped_next nodes i d within none other =
    ap (λ (k : ℕ). get_in (take k nodes) []) (add-one i) ∙ skipped_at nodes i d within none other

-- ---- by the paths

pub entry_is : (below at above : Path) (name : List ℕ) → last_name below ≡ name ∷ [] → at ≡ above ++ name ∷ []
    → entry_by below (Some at) (Some above) ≡ Some name
entry_is below at above name last is =
    let same : path_eq at (above ++ last_name below) ≡ true =
    path_eq_from at (above ++ last_name below) (is ∙ ap (λ (l : Path). above ++ l) (sym last)) in
    ap (λ (b : Bool). if b then first_name (last_name below) else None) same ∙ ap first_name last

is_none_at : (b : Bool) (below at above : Path) (name : List ℕ) → last_name below ≡ name ∷ [] → at ≢ above ++ name ∷ []
    → path_eq at (above ++ last_name below) ≡ b → (if b then first_name (last_name below) else None) ≡ None
is_none_at true below at above name last other same =
    absurd (other (same_path at (above ++ last_name below) same ∙ ap (λ (l : Path). above ++ l) last))
is_none_at false below at above name last other same = refl

pub entry_is_none : (below at above : Path) (name : List ℕ) → last_name below ≡ name ∷ [] → at ≢ above ++ name ∷ []
    → entry_by below (Some at) (Some above) ≡ None
entry_is_none below at above name last other =
    is_none_at (path_eq at (above ++ last_name below)) below at above name last other refl

either_none : (b : Bool) → (if b then first_name [] else None) ≡ None
either_none true = refl
either_none false = refl

root_has_none : (at above : Option Path) → entry_by [] at above ≡ None
root_has_none None above = refl
root_has_none (Some at) None = refl
root_has_none (Some at) (Some above) = either_none (path_eq at (above ++ []))

pub no_entry_of_root : (below : Path) (at above : Option Path) → below ≡ [] → entry_by below at above ≡ None
no_entry_of_root below at above root = subst (λ (p : Path). entry_by p at above ≡ None) (sym root) (root_has_none at above)

pub no_entry_above : (below : Path) (at : Option Path) → entry_by below at None ≡ None
no_entry_above below None = refl
no_entry_above below (Some at) = refl

-- ---- the path above

pub root_of : (p : Path) → None ≡ parent_path p → p ≡ []
root_of [] is = refl
root_of (m ∷ p) is = absurd (some-none (parent (m ∷ p)) (sym is))

pub parent_of : (p above : Path) → Some above ≡ parent_path p → above ≡ parent p
parent_of [] above is = absurd (some-none above is)
parent_of (m ∷ p) above is = same_Some above (parent (m ∷ p)) is
