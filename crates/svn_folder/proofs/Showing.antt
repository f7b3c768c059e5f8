-- What a folder shows after a step, path by path.
use Rattle.std.proofs.Common.{◌≡◌, Bool, true, false, ◌&&◌, List, [], ◌∷◌, ◌++◌, refl, ◌∙◌, ap}
use Rattle.std.specs.Prelude.{cond, bytes_eq, None}
use Rattle.svn_types.specs.Names.{Path}
use Rattle.svn_types.specs.Paths.{path_eq}
use Rattle.svn_types.proofs.NameLemmas.{Name}
use Rattle.svn_folder.specs.declared.step.Step.{Step}
use Rattle.svn_folder.specs.declared.step.Step.TheVariants.{Rename, RenameDirectory}
use Rattle.svn_folder.specs.States.{Held, Place, State, seen, nothing, becomes, with_bytes, with_name, vacant}
use Rattle.svn_folder.specs.Steps.{put, sync_file, sync_directory, is_in, is_none_older, copied, moved, after, run}

-- ---- something else at one path

pub put_here : (p q : Path) (held : Held) (s : State) → path_eq p q ≡ true → seen (put p held s) q ≡ held.entry
put_here p q held s h = ap (λ b. (cond b (becomes held (s q)) (s q)).now.entry) h

pub put_elsewhere : (p q : Path) (held : Held) (s : State) → path_eq p q ≡ false → seen (put p held s) q ≡ seen s q
put_elsewhere p q held s h = ap (λ b. (cond b (becomes held (s q)) (s q)).now.entry) h

pub put_at : (p q : Path) (held : Held) (s : State) → path_eq p q ≡ true → put p held s q ≡ becomes held (s q)
put_at p q held s h = ap (λ b. cond b (becomes held (s q)) (s q)) h

pub put_off : (p q : Path) (held : Held) (s : State) → path_eq p q ≡ false → put p held s q ≡ s q
put_off p q held s h = ap (λ b. cond b (becomes held (s q)) (s q)) h

-- ---- syncs show nothing new

same_shown : (b : Bool) (x y : Place) → x.now.entry ≡ y.now.entry → (cond b x y).now.entry ≡ y.now.entry
same_shown true x y h = h
same_shown false x y h = refl

pub sync_file-shown : (p : Path) (s : State) (q : Path) → seen (sync_file p s) q ≡ seen s q
sync_file-shown p s q = same_shown (path_eq p q) (with_bytes (s q)) (s q) refl

pub sync_directory-shown : (d : Path) (s : State) (p : Path) → seen (sync_directory d s) p ≡ seen s p
sync_directory-shown d s p = same_shown (is_in d p && is_none_older (s d).older) (with_name (s p)) (s p) refl

-- ---- a file with another path

pub rename_here : (p q r : Path) (s : State) → path_eq q r ≡ true → seen (after (Rename p q) s) r ≡ seen s p
rename_here p q r s h = put_here q r (s p).now (put p nothing s) h

pub rename_away : (p q r : Path) (s : State) → path_eq q r ≡ false → path_eq p r ≡ true → seen (after (Rename p q) s) r ≡ None
rename_away p q r s h k = put_elsewhere q r (s p).now (put p nothing s) h ∙ put_here p r nothing s k

pub rename_elsewhere : (p q r : Path) (s : State) → path_eq q r ≡ false → path_eq p r ≡ false → seen (after (Rename p q) s) r ≡ seen s r
rename_elsewhere p q r s h k = put_elsewhere q r (s p).now (put p nothing s) h ∙ put_elsewhere p r nothing s k

-- ---- a directory with another name

module _ (m n : Name) (s : State) where
  pub moved_away : (k : Name) (p : Path) → bytes_eq m k ≡ true → moved m n s (k ∷ p) ≡ vacant
  moved_away k p h = ap (λ b. cond b vacant (copied m n s (k ∷ p))) h

  pub moved_here : (k : Name) (p : Path) → bytes_eq m k ≡ false → bytes_eq n k ≡ true → moved m n s (k ∷ p) ≡ s (m ∷ p)
  moved_here k p h g = ap (λ b. cond b vacant (copied m n s (k ∷ p))) h ∙ ap (λ b. cond b (s (m ∷ p)) (s (k ∷ p))) g

  pub moved_elsewhere : (k : Name) (p : Path) → bytes_eq m k ≡ false → bytes_eq n k ≡ false → moved m n s (k ∷ p) ≡ s (k ∷ p)
  moved_elsewhere k p h g = ap (λ b. cond b vacant (copied m n s (k ∷ p))) h ∙ ap (λ b. cond b (s (m ∷ p)) (s (k ∷ p))) g

  unsynced : (p : Path) → seen (after (RenameDirectory m n) s) p ≡ seen (moved m n s) p
  unsynced p = sync_directory-shown [] (moved m n s) p

  pub move_root : seen (after (RenameDirectory m n) s) [] ≡ seen s []
  move_root = unsynced []

  pub move_away : (k : Name) (p : Path) → bytes_eq m k ≡ true → seen (after (RenameDirectory m n) s) (k ∷ p) ≡ None
  move_away k p h = unsynced (k ∷ p) ∙ ap (λ (place : Place). place.now.entry) (moved_away k p h)

  pub move_here : (k : Name) (p : Path) → bytes_eq m k ≡ false → bytes_eq n k ≡ true
      → seen (after (RenameDirectory m n) s) (k ∷ p) ≡ seen s (m ∷ p)
  move_here k p h g = unsynced (k ∷ p) ∙ ap (λ (place : Place). place.now.entry) (moved_here k p h g)

  pub move_elsewhere : (k : Name) (p : Path) → bytes_eq m k ≡ false → bytes_eq n k ≡ false
      → seen (after (RenameDirectory m n) s) (k ∷ p) ≡ seen s (k ∷ p)
  move_elsewhere k p h g = unsynced (k ∷ p) ∙ ap (λ (place : Place). place.now.entry) (moved_elsewhere k p h g)

-- ---- runs

pub run_append : (s : State) (steps : List Step) (step : Step) → run s (steps ++ step ∷ []) ≡ after step (run s steps)
run_append s [] step = refl
run_append s (x ∷ steps) step = run_append (after x s) steps step
