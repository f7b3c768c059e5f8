-- The names in a directory, found among those that steps have made.
use Rattle.std.proofs.Common.{◌≡◌, Bool, true, false, ◌&&◌, ◌||◌, List, [], ◌∷◌, length, refl, sym, ◌∙◌, ap}
use Rattle.std.specs.Prelude.{bytes_eq, cond, is_some}
use Rattle.std.specs.List.{list_any}
use Rattle.std.specs.BTreeSet.{BTreeSet, contains}
use Rattle.std.specs.BTreeMap.{is_at}
use Rattle.std.specs.List.Sorted.{IsStrictlySortedBy}
use Rattle.svn_types.specs.Names.{Path, name_cmp}
use Rattle.svn_types.specs.Paths.{path_eq, child}
use Rattle.svn_types.proofs.NameLemmas.{Name, at_name}
use Rattle.svn_lists.proofs.Equality.{bytes_eq-symm}
use Rattle.svn_folder.specs.declared.step.Step.{Step}
use Rattle.svn_folder.specs.Entries.{has_directory}
use Rattle.svn_folder.specs.States.{State, seen, empty}
use Rattle.svn_folder.specs.Steps.{run, new_name}
use Rattle.svn_folder.specs.Memory.{AddsName, AreNamesIn, is_made}
use Rattle.svn_folder.specs.Summaries.{IsListing}
use Rattle.svn_folder.proofs.Made.{unmade_unseen}
use Rattle.svn_folder.proofs.Back.{no_steps}

-- ---- sets of names

pub name_in : (old new : BTreeSet Name) (m n : Name) → contains name_cmp new n ≡ cond (is_at (name_cmp m) n) true (contains name_cmp old n)
    → contains name_cmp new n ≡ (bytes_eq m n || contains name_cmp old n)
name_in old new m n h = h ∙ ap (λ b. cond b true (contains name_cmp old n)) (at_name m n) ∙ by (bytes_eq m n)
  where
    by : (b : Bool) → cond b true (contains name_cmp old n) ≡ (b || contains name_cmp old n)
    by true = refl
    by false = refl

or_nothing : (a : Bool) → (a || false) ≡ a
or_nothing true = refl
or_nothing false = refl

-- ---- all steps

-- with the names that the rest makes these are all
abbrev pub AreNamesSoFar : State → Path → List Step → List Step → BTreeSet Name → Type 0
AreNamesSoFar s p steps rest names =
    (name : Name) → (contains name_cmp names name || (is_made rest name && is_some (seen s (child p name)))) ≡ (is_made steps name && is_some (seen s (child p name)))

regroup : (c e m x : Bool) → ((c || (e && x)) || (m && x)) ≡ (c || ((e || m) && x))
regroup true e m x = refl
regroup false true true true = refl
regroup false true true false = refl
regroup false true false true = refl
regroup false true false false = refl
regroup false false m x = refl

pub one_more_step : (s : State) (p : Path) (steps rest after : List Step) (step : Step) (names new : BTreeSet Name) → rest ≡ step ∷ after
    → AddsName s p step names new → AreNamesSoFar s p steps rest names → AreNamesSoFar s p steps after new
one_more_step s p steps rest after step names new is adds so_far name =
    let x = is_some (seen s (child p name)) in
    ap (λ b. b || (is_made after name && x)) (adds name)
    ∙ regroup (contains name_cmp names name) (path_eq (new_name step) (name ∷ [])) (is_made after name) x
    ∙ ap (λ (l : List Step). contains name_cmp names name || (is_made l name && x)) (sym is)
    ∙ so_far name

pub all_names : (steps rest : List Step) (p : Path) (names : BTreeSet Name) → length rest ≡ 0 → AreNamesSoFar (run empty steps) p steps rest names
    → AreNamesIn (run empty steps) p names
all_names steps rest p names none so_far name =
    let x = is_some (seen (run empty steps) (child p name)) in
    sym (or_nothing (contains name_cmp names name))
    ∙ sym (ap (λ (l : List Step). contains name_cmp names name || (is_made l name && x)) (no_steps rest none))
    ∙ so_far name
    ∙ by (is_made steps name) refl
  where
    by : (b : Bool) → is_made steps name ≡ b → (is_made steps name && is_some (seen (run empty steps) (child p name))) ≡ is_some (seen (run empty steps) (child p name))
    by true e = ap (λ b. b && is_some (seen (run empty steps) (child p name))) e
    by false e =
        ap (λ b. b && is_some (seen (run empty steps) (child p name))) e
        ∙ sym (ap is_some (unmade_unseen steps p name e))

-- ---- the listing

any_name : (ns : List Name) (m : Name) → list_any (is_at (name_cmp m)) ns ≡ list_any (λ n. bytes_eq n m) ns
any_name [] m = refl
any_name (n ∷ ns) m =
    ap (λ b. b || list_any (is_at (name_cmp m)) ns) (at_name m n ∙ bytes_eq-symm m n) ∙ ap (λ b. bytes_eq n m || b) (any_name ns m)

pub listed : (s : State) (p : Path) (names : BTreeSet Name) (ns : List Name) → has_directory (seen s p) ≡ true → AreNamesIn s p names → ns ≡ names.keys
    → IsStrictlySortedBy name_cmp ns → IsListing s p ns
listed s p names ns directory are is ascending = record {
  directory = directory;
  ascending = ascending;
  each = λ name. ap (λ (l : List Name). list_any (λ n. bytes_eq n name) l) is ∙ sym (any_name names.keys name) ∙ are name;
}
