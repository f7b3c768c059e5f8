-- Steps at the nodes of two copies, while one takes the place of the other.
use Rattle.std.proofs.Common.{◌≡◌, Bool, true, false, ◌&&◌, ◌||◌, inl, inr, not, List, [], ◌∷◌, ◌++◌, take, drop, refl, sym, ◌∙◌, ap, subst, true≢false}
use Rattle.std.specs.Prelude.{ℕ, codes, None, Result, Ok, Err, is_some}
use Rattle.std.specs.List.{list_all}
use Rattle.std.proofs.lemmas.Bool.{and_parts}
use Rattle.std.proofs.lemmas.List.{take-append-drop}
use Rattle.std.proofs.lemmas.List.Folds.{list_all-append}
use Rattle.svn_types.specs.Names.{Path}
use Rattle.svn_types.specs.Paths.{is_within}
use Rattle.svn_types.proofs.NameLemmas.{Name}
use Rattle.svn_model.specs.declared.base_node.BaseNode.{BaseNode}
use Rattle.svn_model.specs.Nodes.{get_in}
use Rattle.svn_wcrows.specs.declared.work.Work.{Work}
use Rattle.svn_folder.specs.declared.entry.Entry.TheVariants.{Directory}
use Rattle.svn_folder.specs.declared.step.Step.{Step}
use Rattle.svn_folder.specs.declared.step.Step.TheVariants.{Make, SyncFile, SyncDirectory, Rename, RenameDirectory, RemoveFile, RemoveDirectory}
use Rattle.svn_folder.specs.Pasts.{Past}
use Rattle.svn_folder.specs.Files.{is_sync}
use Rattle.svn_disk.specs.Goes.{Keeps, Stops, Goes}
use Rattle.svn_disk.specs.Places.{is_inside, is_changing, is_doing, is_outside, is_either, is_of_change, temporary_place, IsTemporary}
use Rattle.svn_disk.specs.Plans.{path_of}
use Rattle.svn_disk.specs.Crashes.{IsWhole, IsSafe, Leads, Breaks, Runs}
use Rattle.svn_disk.proofs.Going.{keeps_wider, stops_wider, goes_wider, one_each}
use Rattle.svn_disk.proofs.Placing.{temporary_within}
use Rattle.svn_disk.proofs.Beside.{beside_leads, beside_breaks, changing_beside}

-- ---- one step

pub makes_changing : (n : Name) (free : Path → Bool) (p : Path) → free p ≡ true → list_all (is_changing n free) (Make p Directory None ∷ []) ≡ true
makes_changing n free p h = one_each (is_changing n free) (Make p Directory None) h

pub renames_changing : (n : Name) (free : Path → Bool) (p q : Path) → IsTemporary n p → free q ≡ true → list_all (is_changing n free) (Rename p q ∷ []) ≡ true
renames_changing n free p q temporary h = one_each (is_changing n free) (Rename p q) (ap (λ b. b && free q) (temporary_within n p temporary) ∙ h)

pub removes_file_changing : (n : Name) (free : Path → Bool) (p : Path) → free p ≡ true → list_all (is_changing n free) (RemoveFile p ∷ []) ≡ true
removes_file_changing n free p h = one_each (is_changing n free) (RemoveFile p) h

pub removes_directory_changing : (n : Name) (free : Path → Bool) (p : Path) → free p ≡ true → list_all (is_changing n free) (RemoveDirectory p ∷ []) ≡ true
removes_directory_changing n free p h = one_each (is_changing n free) (RemoveDirectory p) h

sync_changing : (n : Name) (free : Path → Bool) (step : Step) → is_sync step ≡ true → is_changing n free step ≡ true
sync_changing n free (Make p e t) h = absurd (true≢false (sym h))
sync_changing n free (SyncFile p) h = refl
sync_changing n free (SyncDirectory p) h = refl
sync_changing n free (Rename p q) h = absurd (true≢false (sym h))
sync_changing n free (RenameDirectory k m) h = absurd (true≢false (sym h))
sync_changing n free (RemoveFile p) h = absurd (true≢false (sym h))
sync_changing n free (RemoveDirectory p) h = absurd (true≢false (sym h))

pub syncs_changing : {T : Type 0} → {E : Type 0} → (n : Name) (free : Path → Bool) (old new : Past) (result : Result T E) → Goes is_sync old result new
    → Goes (is_changing n free) old result new
syncs_changing n free old new result goes = goes_wider is_sync (is_changing n free) (sync_changing n free) old new result goes

-- ---- either way

first_of : (a b : Bool) → a ≡ true → (a || b) ≡ true
first_of true b h = refl
first_of false b h = absurd (true≢false (sym h))

last_of : (a b : Bool) → b ≡ true → (a || b) ≡ true
last_of true b h = refl
last_of false b h = h

inside_doing : (n : Name) (free : Path → Bool) (step : Step) → is_inside n step ≡ true → is_doing n free step ≡ true
inside_doing n free step h = first_of (is_inside n step) (is_changing n free step) h

changing_doing : (n : Name) (free : Path → Bool) (step : Step) → is_changing n free step ≡ true → is_doing n free step ≡ true
changing_doing n free step h = last_of (is_inside n step) (is_changing n free step) h

module _ (n : Name) (free : Path → Bool) {old new : Past} where
  pub inside_keeps : Keeps (is_inside n) old new → Keeps (is_doing n free) old new
  inside_keeps keeps = keeps_wider (is_inside n) (is_doing n free) (inside_doing n free) old new keeps

  pub inside_stops : Stops (is_inside n) old new → Stops (is_doing n free) old new
  inside_stops stops = stops_wider (is_inside n) (is_doing n free) (inside_doing n free) old new stops

  pub changing_keeps : Keeps (is_changing n free) old new → Keeps (is_doing n free) old new
  changing_keeps keeps = keeps_wider (is_changing n free) (is_doing n free) (changing_doing n free) old new keeps

  pub changing_stops : Stops (is_changing n free) old new → Stops (is_doing n free) old new
  changing_stops stops = stops_wider (is_changing n free) (is_doing n free) (changing_doing n free) old new stops

pub inside_goes_doing : {T : Type 0} → {E : Type 0} → (n : Name) (free : Path → Bool) (old new : Past) (result : Result T E) → Goes (is_inside n) old result new
    → Goes (is_doing n free) old result new
inside_goes_doing n free old new result goes = goes_wider (is_inside n) (is_doing n free) (inside_doing n free) old new result goes

-- ---- a crash meanwhile

abbrev svn : Name
svn = codes ".svn"

pub changing_leads : (nodes : List (Path × BaseNode)) (n : Name) (is : n ≡ svn) (old new : Past) → Keeps (is_changing n is_outside) old new
    → Leads (IsSafe svn nodes) (IsWhole svn nodes) (IsSafe svn nodes) old new
changing_leads nodes n is old new keeps =
    beside_leads svn (is_changing svn is_outside) (changing_beside is_outside (λ p h. h)) nodes old new
    (subst (λ (m : Name). Keeps (is_changing m is_outside) old new) is keeps)

pub changing_breaks : (nodes : List (Path × BaseNode)) (n : Name) (is : n ≡ svn) (old new : Past) → Stops (is_changing n is_outside) old new
    → Breaks (IsSafe svn nodes) (IsWhole svn nodes) old new
changing_breaks nodes n is old new stops =
    beside_breaks svn (is_changing svn is_outside) (changing_beside is_outside (λ p h. h)) nodes old new
    (subst (λ (m : Name). Stops (is_changing m is_outside) old new) is stops)

-- ---- nodes of either copy

pub either_outside : (old new : List (Path × BaseNode)) (p : Path) → is_either old new p ≡ true → is_outside p ≡ true
either_outside old new p h = (and_parts (is_outside p) (is_some (get_in old p) || is_some (get_in new p)) h).0

pub all_wider : {X : Type 0} (P Q : X → Bool) → ((x : X) → P x ≡ true → Q x ≡ true) → (xs : List X) → list_all P xs ≡ true → list_all Q xs ≡ true
all_wider P Q wider [] h = refl
all_wider P Q wider (x ∷ xs) h =
    let parts = and_parts (P x) (list_all P xs) h in ap (λ b. b && list_all Q xs) (wider x parts.0) ∙ all_wider P Q wider xs parts.1

pub work_outside : (old new : List (Path × BaseNode)) (work : List Work) → list_all (λ item. is_either old new (path_of item)) work ≡ true
    → list_all (λ item. is_outside (path_of item)) work ≡ true
work_outside old new work h =
    all_wider (λ item. is_either old new (path_of item)) (λ item. is_outside (path_of item)) (λ item. either_outside old new (path_of item)) work h

-- of a list that is looked through, an item that has it
pub all_next : {X : Type 0} (P : X → Bool) (all rest more : List X) (x : X) → rest ≡ x ∷ more → P x ≡ true → (list_all P rest ≡ true → list_all P all ≡ true)
    → list_all P more ≡ true → list_all P all ≡ true
all_next P all rest more x is here before later = before (ap (list_all P) is ∙ ap (λ b. b && list_all P more) here ∙ later)

pub all_over : {X : Type 0} (P : X → Bool) (all rest : List X) → rest ≡ [] → (list_all P rest ≡ true → list_all P all ≡ true) → list_all P all ≡ true
all_over P all rest is before = before (ap (list_all P) is)

-- a part of a list
pub all_taken : {X : Type 0} (P : X → Bool) (k : ℕ) (xs : List X) → list_all P xs ≡ true → list_all P (take k xs) ≡ true
all_taken P k xs h =
    (and_parts (list_all P (take k xs)) (list_all P (drop k xs)) (sym (list_all-append P (take k xs) (drop k xs)) ∙ ap (list_all P) (take-append-drop k xs) ∙ h)).0

pub all_dropped : {X : Type 0} (P : X → Bool) (k : ℕ) (xs : List X) → list_all P xs ≡ true → list_all P (drop k xs) ≡ true
all_dropped P k xs h =
    (and_parts (list_all P (take k xs)) (list_all P (drop k xs)) (sym (list_all-append P (take k xs) (drop k xs)) ∙ ap (list_all P) (take-append-drop k xs) ∙ h)).1

pub all_popped : {X : Type 0} (P : X → Bool) (old new : List X) (x : X) → old ≡ new ++ x ∷ [] → list_all P old ≡ true → (list_all P new ≡ true) × (P x ≡ true)
all_popped P old new x is h =
    let parts = and_parts (list_all P new) (P x && true) (sym (list_all-append P new (x ∷ [])) ∙ ap (list_all P) (sym is) ∙ h) in
    (parts.0, (and_parts (P x) true parts.1).0)
