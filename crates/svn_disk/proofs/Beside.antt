-- Steps that are elsewhere than the database and the pristine texts of a copy leave it safe.
use Rattle.std.proofs.Common.{◌≡◌, Bool, true, false, ◌&&◌, not, List, [], ◌∷◌, ◌++◌, refl, sym, ◌∙◌, ap, subst, true≢false}
use Rattle.std.specs.Prelude.{ℕ, bytes_eq, codes}
use Rattle.std.specs.List.{list_all}
use Rattle.std.proofs.lemmas.Bool.{and_parts}
use Rattle.svn_types.specs.Names.{Path}
use Rattle.svn_types.specs.Paths.{is_within}
use Rattle.svn_types.proofs.NameLemmas.{Name}
use Rattle.svn_types.proofs.PathLemmas.{split_within}
use Rattle.svn_model.specs.declared.base_node.BaseNode.{BaseNode}
use Rattle.svn_folder.specs.declared.step.Step.{Step}
use Rattle.svn_folder.specs.declared.step.Step.TheVariants.{Make, SyncFile, SyncDirectory, Rename, RenameDirectory, RemoveFile, RemoveDirectory}
use Rattle.svn_folder.specs.Entries.{is_leaf}
use Rattle.svn_folder.specs.States.{Seen, State}
use Rattle.svn_folder.specs.Steps.{run}
use Rattle.svn_folder.specs.Crashes.{RunMayLeave}
use Rattle.svn_folder.specs.Laws.{is_apart, AreApart}
use Rattle.svn_folder.specs.Pasts.{Past}
use Rattle.svn_folder.specs.Files.{is_sync}
use Rattle.svn_disk.specs.Goes.{Keeps, Stops}
use Rattle.svn_disk.specs.Places.{is_temporary, is_placing, is_changing, is_outside, temporary_place, text_below, text_place, database_place}
use Rattle.svn_disk.specs.Crashes.{IsWhole, IsSafe, IsBoth, IsTextOn, Leads, Breaks}
use Rattle.svn_disk.proofs.Whole.{safe_apart, both_apart}
use Rattle.svn_disk.proofs.Running.{keeps_leads, stops_breaks}

abbrev svn : Name
svn = codes ".svn"

not_and : (a b : Bool) → not a ≡ true → not (a && b) ≡ true
not_and true b h = absurd (true≢false (sym h))
not_and false b h = refl

pub not_false : (a : Bool) → not (a && false) ≡ true
not_false true = refl
not_false false = refl

pub each_off : (P : Step → Bool) (p : Path) → ((step : Step) → P step ≡ true → is_apart step p ≡ true) → (steps : List Step) → list_all P steps ≡ true → AreApart steps p
each_off P p apart [] h = tt
each_off P p apart (step ∷ steps) h =
    let parts = and_parts (P step) (list_all P steps) h in (apart step parts.0, each_off P p apart steps parts.1)

-- ---- what has no name yet

pub temporary_off : (n k : Name) (p r : Path) → bytes_eq (codes "tmp") k ≡ false → is_within (temporary_place n) p ≡ true → not (is_within p (n ∷ k ∷ r)) ≡ true
temporary_off n k p r other h =
    let parts = split_within (temporary_place n) p h in
    subst (λ (x : Path). not (is_within x (n ∷ k ∷ r)) ≡ true) (sym parts.1)
    (ap (λ b. not (bytes_eq n n && (b && is_within parts.0 r))) other ∙ not_false (bytes_eq n n))

module _ (n k : Name) (r : Path) (other : bytes_eq (codes "tmp") k ≡ false) where
  temporary_step_off : (step : Step) → is_temporary n step ≡ true → is_apart step (n ∷ k ∷ r) ≡ true
  temporary_step_off (Make p e t) h = temporary_off n k p r other h
  temporary_step_off (SyncFile p) h = refl
  temporary_step_off (SyncDirectory p) h = refl
  temporary_step_off (Rename p q) h =
      let parts = and_parts (is_within (temporary_place n) p) (is_within (temporary_place n) q) h in
      ap (λ b. b && not (is_within q (n ∷ k ∷ r))) (temporary_off n k p r other parts.0) ∙ temporary_off n k q r other parts.1
  temporary_step_off (RenameDirectory l m) h = absurd (true≢false (sym h))
  temporary_step_off (RemoveFile p) h = temporary_off n k p r other h
  temporary_step_off (RemoveDirectory p) h = temporary_off n k p r other h

sync_off : (p : Path) (step : Step) → is_sync step ≡ true → is_apart step p ≡ true
sync_off p (Make q e t) h = absurd (true≢false (sym h))
sync_off p (SyncFile q) h = refl
sync_off p (SyncDirectory q) h = refl
sync_off p (Rename q r) h = absurd (true≢false (sym h))
sync_off p (RenameDirectory k m) h = absurd (true≢false (sym h))
sync_off p (RemoveFile q) h = absurd (true≢false (sym h))
sync_off p (RemoveDirectory q) h = absurd (true≢false (sym h))

-- ---- nodes

outside_off : (p r : Path) → is_outside p ≡ true → not (is_within p (svn ∷ r)) ≡ true
outside_off [] r h = absurd (true≢false (sym h))
outside_off (k ∷ p) r h = not_and (bytes_eq k svn) (is_within p r) h

module _ (free : Path → Bool) (outside : (p : Path) → free p ≡ true → is_outside p ≡ true) (k : Name) (r : Path) (other : bytes_eq (codes "tmp") k ≡ false) where
  placing_off : (step : Step) → is_placing svn free step ≡ true → is_apart step (svn ∷ k ∷ r) ≡ true
  placing_off (Make p e t) h = outside_off p (k ∷ r) (outside p h)
  placing_off (SyncFile p) h = refl
  placing_off (SyncDirectory p) h = refl
  placing_off (Rename p q) h =
      let parts = and_parts (is_within (temporary_place svn) p) (free q) h in
      ap (λ b. b && not (is_within q (svn ∷ k ∷ r))) (temporary_off svn k p r other parts.0) ∙ outside_off q (k ∷ r) (outside q parts.1)
  placing_off (RenameDirectory l m) h = absurd (true≢false (sym h))
  placing_off (RemoveFile p) h = absurd (true≢false (sym h))
  placing_off (RemoveDirectory p) h = absurd (true≢false (sym h))

  changing_off : (step : Step) → is_changing svn free step ≡ true → is_apart step (svn ∷ k ∷ r) ≡ true
  changing_off (Make p e t) h = outside_off p (k ∷ r) (outside p (and_parts (not (is_leaf e)) (free p) h).1)
  changing_off (SyncFile p) h = refl
  changing_off (SyncDirectory p) h = refl
  changing_off (Rename p q) h =
      let parts = and_parts (is_within (temporary_place svn) p) (free q) h in
      ap (λ b. b && not (is_within q (svn ∷ k ∷ r))) (temporary_off svn k p r other parts.0) ∙ outside_off q (k ∷ r) (outside q parts.1)
  changing_off (RenameDirectory l m) h = absurd (true≢false (sym h))
  changing_off (RemoveFile p) h = outside_off p (k ∷ r) (outside p h)
  changing_off (RemoveDirectory p) h = outside_off p (k ∷ r) (outside p h)

-- ---- of steps that are all elsewhere

-- they are apart from all in the folder that isn't temporary
abbrev pub IsBeside : Name → (Step → Bool) → Type 0
IsBeside n P = (k : Name) (r : Path) → bytes_eq (codes "tmp") k ≡ false → (step : Step) → P step ≡ true → is_apart step (n ∷ k ∷ r) ≡ true

module _ (n : Name) (P : Step → Bool) (beside : IsBeside n P) where
  pub beside_safe : (nodes : List (Path × BaseNode)) (s : State) (more : List Step) → list_all P more ≡ true → IsSafe n nodes s
      → IsSafe n nodes (run s more) × ((left : Seen) → RunMayLeave s more left → IsWhole n nodes left)
  beside_safe nodes s more each safe =
      safe_apart n nodes s more (λ t is. each_off P (text_place n t) (beside (codes "pristine") (text_below t) refl) more each)
      (each_off P (database_place n) (beside (codes "wc.db") [] refl) more each) safe

  pub beside_leads : (nodes : List (Path × BaseNode)) (old new : Past) → Keeps P old new → Leads (IsSafe n nodes) (IsWhole n nodes) (IsSafe n nodes) old new
  beside_leads nodes old new keeps = keeps_leads (IsSafe n nodes) (IsWhole n nodes) (IsSafe n nodes) P old new (beside_safe nodes) keeps

  pub beside_breaks : (nodes : List (Path × BaseNode)) (old new : Past) → Stops P old new → Breaks (IsSafe n nodes) (IsWhole n nodes) old new
  beside_breaks nodes old new stops =
      stops_breaks (IsSafe n nodes) (IsWhole n nodes) (IsSafe n nodes) P old new (λ s more each safe left may. (beside_safe nodes s more each safe).1 left may) stops

module _ (P : Step → Bool) (beside : IsBeside svn P) (one two : List (Path × BaseNode)) where
  pub beside_both : (s : State) (more : List Step) → list_all P more ≡ true → IsBoth one two s
      → IsBoth one two (run s more) × ((left : Seen) → RunMayLeave s more left → IsWhole svn one left)
  beside_both s more each both =
      both_apart one two s more (each_off P (database_place svn) (beside (codes "wc.db") [] refl) more each)
      (λ t is. each_off P (text_place svn t) (beside (codes "pristine") (text_below t) refl) more each) both

pub temporary_beside : (n : Name) → IsBeside n (is_temporary n)
temporary_beside n k r other step h = temporary_step_off n k r other step h

pub sync_beside : (n : Name) → IsBeside n is_sync
sync_beside n k r other step h = sync_off (n ∷ k ∷ r) step h

pub placing_beside : (free : Path → Bool) → ((p : Path) → free p ≡ true → is_outside p ≡ true) → IsBeside svn (is_placing svn free)
placing_beside free outside k r other step h = placing_off free outside k r other step h

pub changing_beside : (free : Path → Bool) → ((p : Path) → free p ≡ true → is_outside p ≡ true) → IsBeside svn (is_changing svn free)
changing_beside free outside k r other step h = changing_off free outside k r other step h
