-- What a crash may leave of a folder, be it the program that stops or the power that fails.
--
-- Assumed is this, and no order in which anything reaches the disk:
--   - a name stands for what it stands for now, or for anything that it stood for since its directory was synced; names do so one by one, so of a
--     rename either name may be old or new;
--   - a file that wasn't synced since it was made holds any bytes, in any mode, under each name that it had;
--   - what is below a directory is lost with its name, and comes back with it;
--   - what was synced stays, and nothing else changes.
-- A sync of a directory counts only if its own name is on the disk. A directory that gets another name (`RenameDirectory`) takes what is below it
-- along, and has that name on the disk when the step is done.
use Rattle.std.specs.Prelude.{◌≡◌, ◌⊎◌, true, false, List, [], ◌∷◌, Option, None, if◌then◌else◌}
use Rattle.svn_types.specs.Names.{Path}
use Rattle.svn_types.specs.Paths.{child}
use Rattle.svn_folder.specs.declared.entry.Entry.{Entry}
use Rattle.svn_folder.specs.declared.step.Step.{Step}
use Rattle.svn_folder.specs.Entries.{has_file, has_directory}
use Rattle.svn_folder.specs.States.{Seen, Held, State}
use Rattle.svn_folder.specs.Steps.{after, begun}

-- an entry as it is, or, if its bytes aren't on the disk, any file
abbrev pub IsLeftOf : Held → Option Entry → Type 0
IsLeftOf held e = (e ≡ held.entry) ⊎ ((held.is_synced ≡ false) × (has_file e ≡ true))

abbrev pub IsLeftOfOne : List Held → Option Entry → Type 0
IsLeftOfOne [] e = ⊥
IsLeftOfOne (held ∷ more) e = IsLeftOf held e ⊎ IsLeftOfOne more e

-- of what names stand for, that which has a directory all the way to it
abbrev pub shown_below : Seen → Path → Path → Option Entry
shown_below names above [] = names above
shown_below names above (n ∷ p) = if has_directory (names above) then shown_below names (child above n) p else None

abbrev pub shown : Seen → Seen
shown names p = shown_below names [] p

-- a crash in this state may leave this
pub record MayLeave (s : State) (left : Seen) : Type 0 where
  -- what each name stands for on the disk
  pub names : Seen
  pub each : (p : Path) → IsLeftOfOne ((s p).now ∷ (s p).older) (names p)
  pub is_shown : (p : Path) → left p ≡ shown names p

abbrev pub OneMayLeave : List State → Seen → Type 0
OneMayLeave [] left = ⊥
OneMayLeave (s ∷ more) left = MayLeave s left ⊎ OneMayLeave more left

-- a crash at a moment of these steps, or after them, may leave this
abbrev pub RunMayLeave : State → List Step → Seen → Type 0
RunMayLeave s [] left = MayLeave s left
RunMayLeave s (step ∷ steps) left = MayLeave s left ⊎ OneMayLeave (begun step s) left ⊎ RunMayLeave (after step s) steps left
