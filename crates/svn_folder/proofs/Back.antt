-- Back through the steps that a folder has taken.
use Rattle.std.proofs.Common.{◌≡◌, ℕ, Bool, true, false, ◌&&◌, ◌⊎◌, inl, inr, List, [], ◌∷◌, ◌++◌, length, Option, Some, refl, sym, subst, ◌∙◌, ap, arith, true≢false}
use Rattle.std.specs.Prelude.{cond, None, MatchOption}
use Rattle.svn_types.specs.Names.{Path}
use Rattle.svn_types.specs.Paths.{path_eq}
use Rattle.svn_folder.specs.declared.step.Step.{Step}
use Rattle.svn_folder.specs.declared.memory.Origin.{Origin}
use Rattle.svn_folder.specs.declared.held.Left.{Left}
use Rattle.svn_folder.specs.States.{Place, State, seen, empty, nothing, vacant, with_name}
use Rattle.svn_folder.specs.declared.step.Step.TheVariants.{Rename, RenameDirectory}
use Rattle.svn_folder.specs.Steps.{after, moved, put, run, sync_directory, is_in, is_none_older}
use Rattle.svn_folder.specs.Memory.{IsOrigin, IsClear, IsPlace, origin_in}
use Rattle.svn_folder.proofs.Showing.{put_off, run_append}

-- what is shown after the last step was at its origin before
pub step_back : (steps before : List Step) (step : Step) (p : Path) (origin : Origin) → steps ≡ before ++ step ∷ [] → IsOrigin step p origin
    → seen (run empty steps) p ≡ origin_in origin (run empty before)
step_back steps before step p origin e is =
    ap (λ (l : List Step). seen (run empty l) p) e ∙ ap (λ (t : State). seen t p) (run_append empty before step) ∙ is (run empty before)

pub no_steps : (steps : List Step) → length steps ≡ 0 → steps ≡ []
no_steps [] h = refl
no_steps (step ∷ steps) h = absurd (omega arith)

pub nothing_at_first : (p : Path) → (p ≡ [] → ⊥) → seen empty p ≡ None
nothing_at_first [] h = absurd (h refl)
nothing_at_first (n ∷ p) h = refl

pub clear_at_last : (s : State) (p : Path) (steps : List Step) → length steps ≡ 0 → IsClear s p steps
clear_at_last s p [] h = tt
clear_at_last s p (step ∷ steps) h = absurd (omega arith)

-- ---- what a crash may leave

pub left_at_first : (steps : List Step) (p : Path) (l : Left) → length steps ≡ 0 → IsPlace (empty p) l → IsPlace (run empty steps p) l
left_at_first [] p l h is = is
left_at_first (step ∷ steps) p l h is = absurd (omega arith)

pub left_back : (steps before : List Step) (last step : Step) (p : Path) (l : Left) → steps ≡ before ++ last ∷ [] → last ≡ step
    → IsPlace (after step (run empty before) p) l → IsPlace (run empty steps p) l
left_back steps before last step p l e same is =
    subst (λ (s : State). IsPlace (s p) l)
    (sym (ap (run empty) e ∙ run_append empty before last ∙ ap (λ (t : Step). after t (run empty before)) same)) is

-- the sync of a directory leaves what isn't in it, and a name that is on the disk
pub left_settled : (d p : Path) (s : State) (l : Left) → (l.older.items ≡ []) ⊎ (is_in d p ≡ false) → IsPlace (s p) l → IsPlace (sync_directory d s p) l
left_settled d p s l settled is = by (is_in d p && is_none_older (s d).older) refl settled
  where
    by : (b : Bool) → (is_in d p && is_none_older (s d).older) ≡ b → (l.older.items ≡ []) ⊎ (is_in d p ≡ false) → IsPlace (cond b (with_name (s p)) (s p)) l
    by false e either = is
    by true e (inl none) = (is.0, none)
    by true e (inr apart) = absurd (true≢false (sym e ∙ ap (λ b. b && is_none_older (s d).older) apart))

-- a rename to another path leaves what is left without its source
pub left_elsewhere : (p q r : Path) (s : State) (l : Left) → path_eq q r ≡ false → IsPlace (put p nothing s r) l → IsPlace (after (Rename p q) s r) l
left_elsewhere p q r s l apart is =
    subst (λ (place : Place). IsPlace place l) (sym (put_off q r (s p).now (put p nothing s) apart)) is

-- where what is at a path was before a directory was renamed
pub left_moved : (m n : List ℕ) (s : State) (p : Path) (o : Option Path) (l : Left)
    → MatchOption o (moved m n s p ≡ vacant) (λ q. moved m n s p ≡ s q) → MatchOption o (IsPlace vacant l) (λ q. IsPlace (s q) l)
    → IsPlace (moved m n s p) l
left_moved m n s p None l is left = subst (λ (place : Place). IsPlace place l) (sym is) left
left_moved m n s p (Some q) l is left = subst (λ (place : Place). IsPlace place l) (sym is) left

pub left_renamed : (m n : List ℕ) (s : State) (root p : Path) (o : Option Path) (left l : Left) → root ≡ []
    → MatchOption o (moved m n s p ≡ vacant) (λ q. moved m n s p ≡ s q)
    → MatchOption o (IsPlace vacant left) (λ q. IsPlace (s q) left)
    → (IsPlace (moved m n s p) left → IsPlace (sync_directory root (moved m n s) p) l)
    → IsPlace (after (RenameDirectory m n) s p) l
left_renamed m n s root p o left l none is from synced =
    subst (λ (r : Path). IsPlace (sync_directory r (moved m n s) p) l) none (synced (left_moved m n s p o left is from))

-- the folder itself stays
pub left_root : (m n : List ℕ) (s : State) (root : Path) (directory : Left) → root ≡ [] → IsPlace (s root) directory → IsPlace (moved m n s root) directory
left_root m n s root directory none at = subst (λ (r : Path). IsPlace (s r) directory → IsPlace (moved m n s r) directory) (sym none) (λ h. h) at
