-- What is known of a folder: the steps that it has taken since some state.
--     Takes step old result new      what a step makes of it
--     Shows past p e      it shows this at a path
--     moment past      a moment, as a number that grows: how many steps were taken
--     LeftSince past t left      a crash at a moment from that one on might have left this
use Rattle.std.specs.Prelude.{◌≡◌, ◌⊎◌, ℕ, Bool, true, false, List, [], ◌∷◌, ◌++◌, length, take, drop, Option, Result, Ok, Err, ⊤}
use Rattle.svn_types.specs.Names.{Path}
use Rattle.svn_folder.specs.declared.entry.Entry.{Entry}
use Rattle.svn_folder.specs.declared.step.Step.{Step}
use Rattle.svn_folder.specs.declared.fault.FolderFault.{FolderFault}
use Rattle.svn_folder.specs.declared.fault.FolderFault.TheVariants.{Refused, Failed, Unread, Stopped, Memory}
use Rattle.svn_folder.specs.declared.fault.FolderFault.TheVariants as fault
use Rattle.svn_folder.specs.States.{Seen, State, seen}
use Rattle.svn_folder.specs.Steps.{run, fits}
use Rattle.svn_folder.specs.Crashes.{RunMayLeave}

pub data Past : Type 0 where
  Unknown : Past
  -- these steps were taken from this state on
  Known : State → List Step → Past
  -- the same, but the system failed at the last one
  Broken : State → List Step → Past

-- the system failed: the step was taken, or it wasn't, or in part
abbrev pub IsFailure : FolderFault → Type 0
IsFailure (Refused step misfit) = ⊥
IsFailure (Failed step error) = ⊤
IsFailure (Unread path error) = ⊥
IsFailure Stopped = ⊥
IsFailure (fault.Path f) = ⊥
IsFailure Memory = ⊥

-- the step was refused because it doesn't fit
abbrev pub IsRefused : Result (Unit {0}) FolderFault → Type 0
IsRefused (Ok done) = ⊥
IsRefused (Err (Refused step misfit)) = ⊤
IsRefused (Err (Failed step error)) = ⊥
IsRefused (Err (Unread path error)) = ⊥
IsRefused (Err Stopped) = ⊥
IsRefused (Err (fault.Path f)) = ⊥
IsRefused (Err Memory) = ⊥

-- each step is known, and that it was taken
abbrev pub is_known : Past → Bool
is_known Unknown = false
is_known (Known s steps) = true
is_known (Broken s steps) = false

-- A step that was taken fitted, and is one of those taken from then on. One that wasn't changed nothing, unless the system failed: then it
-- is the last of which anything is known. What isn't known stays so.
abbrev pub Takes : Step → Past → Result (Unit {0}) FolderFault → Past → Type 0
Takes step Unknown result new = is_known new ≡ false
Takes step (Known s steps) (Ok done) new = fits step (run s steps) × (new ≡ Known s (steps ++ step ∷ []))
Takes step (Known s steps) (Err f) new = (new ≡ Known s steps) ⊎ (IsFailure f × (new ≡ Broken s (steps ++ step ∷ [])))
Takes step (Broken s steps) result new = is_known new ≡ false

abbrev pub Shows : Past → Path → Option Entry → Type 0
Shows Unknown p e = ⊤
Shows (Known s steps) p e = e ≡ seen (run s steps) p
Shows (Broken s steps) p e = ⊤

abbrev pub moment : Past → ℕ
moment Unknown = 0
moment (Known s steps) = length steps
moment (Broken s steps) = length steps

-- a step that failed leaves what it might leave if it had been taken, at any of its moments
abbrev pub LeftSince : Past → ℕ → Seen → Type 0
LeftSince Unknown t left = ⊤
LeftSince (Known s steps) t left = RunMayLeave (run s (take t steps)) (drop t steps) left
LeftSince (Broken s steps) t left = RunMayLeave (run s (take t steps)) (drop t steps) left
