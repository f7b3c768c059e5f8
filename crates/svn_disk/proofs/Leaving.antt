-- Steps in the folder of a copy that is made, and a crash during them: there is no copy yet.
use Rattle.std.proofs.Common.{◌≡◌, Bool, true, false, ◌&&◌, ◌⊎◌, inl, inr, not, List, [], ◌∷◌, ◌++◌, length, take, drop, refl, sym, ◌∙◌, ap, subst, true≢false}
use Rattle.std.specs.Prelude.{bytes_eq, codes}
use Rattle.std.specs.List.{list_all}
use Rattle.std.proofs.lemmas.Bool.{and_parts}
use Rattle.std.proofs.Math.Seq.{take-append_seam, drop-append_seam}
use Rattle.svn_types.specs.Names.{Path}
use Rattle.svn_types.specs.Paths.{is_within}
use Rattle.svn_types.proofs.NameLemmas.{Name}
use Rattle.svn_types.proofs.PathLemmas.{same_path}
use Rattle.svn_folder.specs.declared.step.Step.{Step}
use Rattle.svn_folder.specs.declared.step.Step.TheVariants.{Make, SyncFile, SyncDirectory, Rename, RenameDirectory, RemoveFile, RemoveDirectory}
use Rattle.svn_folder.specs.Entries.{has_directory}
use Rattle.svn_folder.specs.States.{Seen, State, seen}
use Rattle.svn_folder.specs.Steps.{run, is_none_older}
use Rattle.svn_folder.specs.Crashes.{RunMayLeave}
use Rattle.svn_folder.specs.Laws.{is_apart, AreApart, IsOnDisk}
use Rattle.svn_folder.specs.Syncing.{IsSynced}
use Rattle.svn_folder.specs.Pasts.{Past, Known, Broken, LeftSince}
use Rattle.svn_folder.proofs.Apart.{meanwhile}
use Rattle.svn_folder.proofs.Settled.{on_disk}
use Rattle.svn_disk.specs.Goes.{Ends}
use Rattle.svn_disk.specs.Places.{is_inside}
use Rattle.svn_disk.specs.Crashes.{IsFree, IsNoCopy}

-- ---- what is inside of one name is apart from another

module _ (n m : Name) (p : Path) (other : bytes_eq n m ≡ false) where
  pub off : (q : Path) → is_within (n ∷ []) q ≡ true → not (is_within q (m ∷ p)) ≡ true
  off [] h = absurd (true≢false (sym h))
  off (k ∷ r) h =
      let same : n ∷ [] ≡ k ∷ [] = same_path (n ∷ []) (k ∷ []) (ap (λ b. b && true) (and_parts (bytes_eq n k) true h).0) in
      ap (λ (x : Path). not (is_within (x ++ r) (m ∷ p))) (sym same) ∙ ap (λ b. not (b && is_within r p)) other

  both_off : (q r : Path) → (is_within (n ∷ []) q && is_within (n ∷ []) r) ≡ true → (not (is_within q (m ∷ p)) && not (is_within r (m ∷ p))) ≡ true
  both_off q r h =
      let parts = and_parts (is_within (n ∷ []) q) (is_within (n ∷ []) r) h in
      ap (λ b. b && not (is_within r (m ∷ p))) (off q parts.0) ∙ off r parts.1

  inside_apart : (step : Step) → is_inside n step ≡ true → is_apart step (m ∷ p) ≡ true
  inside_apart (Make q e t) h = off q h
  inside_apart (SyncFile q) h = refl
  inside_apart (SyncDirectory q) h = refl
  inside_apart (Rename q r) h = both_off q r h
  inside_apart (RenameDirectory k l) h = absurd (true≢false (sym h))
  inside_apart (RemoveFile q) h = off q h
  inside_apart (RemoveDirectory q) h = off q h

  pub each_apart : (steps : List Step) → list_all (is_inside n) steps ≡ true → AreApart steps (m ∷ p)
  each_apart [] h = tt
  each_apart (step ∷ steps) h =
      let parts = and_parts (is_inside n step) (list_all (is_inside n) steps) h in
      (inside_apart step parts.0, each_apart steps parts.1)

-- ---- a crash since some steps

since : (s : State) (steps more : List Step) (left : Seen)
    → RunMayLeave (run s (take (length steps) (steps ++ more))) (drop (length steps) (steps ++ more)) left → RunMayLeave (run s steps) more left
since s steps more left may =
    subst (λ (xs : List Step). RunMayLeave (run s steps) xs left) (drop-append_seam steps more)
    (subst (λ (xs : List Step). RunMayLeave (run s xs) (drop (length steps) (steps ++ more)) left) (take-append_seam steps more) may)

pub left_since : (P : Step → Bool) (s : State) (steps : List Step) (new : Past) (ends : Ends P s steps new) (left : Seen)
    → LeftSince new (length steps) left → RunMayLeave (run s steps) ends.more left
left_since P s steps new ends left may = by ends.past
  where
    by : (new ≡ Known s (steps ++ ends.more)) ⊎ (new ≡ Broken s (steps ++ ends.more)) → RunMayLeave (run s steps) ends.more left
    by (inl is) = since s steps ends.more left (subst (λ (x : Past). LeftSince x (length steps) left) is may)
    by (inr is) = since s steps ends.more left (subst (λ (x : Past). LeftSince x (length steps) left) is may)

-- ---- there is no copy yet

pub free_on_disk : (s : State) (m : Name) → IsSynced s → IsOnDisk s (m ∷ [])
free_on_disk s m synced = on_disk s synced (m ∷ []) (and_parts (has_directory (seen s [])) (is_none_older (s []).older) synced.root).0

pub no_copy_left : (n : Name) (s : State) (more : List Step) (left : Seen) → bytes_eq n (codes ".svn") ≡ false → list_all (is_inside n) more ≡ true
    → IsFree s → RunMayLeave s more left → IsNoCopy left
no_copy_left n s more left other all free may =
    (meanwhile s more (codes ".svn" ∷ []) (free_on_disk s (codes ".svn") free.synced) (each_apart n (codes ".svn") [] other more all)).0 left may ∙ free.free
