-- What became of the calls of a drive, in numbers and at each path.
--     CameTo drive mode limit w0 left o      a run of that drive, from the copy w0, ended so and left that copy
--     CameInTurn drive mode limit w0 left o      the same of a run on one thread
--     turn_outcome limit end made accepted      the outcome of a run on one thread, by how the driver ended and what was counted
use Rattle.std.specs.Prelude.{◌≡◌, ℕ, ◌+◌, ◌<◌, ◌≤◌, List, length, take, Option, Some, None, IfSome, Result, Ok, Err}
use Rattle.svn_types.specs.Names.{Path}
use Rattle.svn_editor.specs.declared.call.Call.{Call}
use Rattle.svn_editor.specs.declared.mode.Mode.{Mode}
use Rattle.svn_model.specs.declared.drive_end.DriveEnd.{DriveEnd}
use Rattle.svn_model.specs.declared.drive_end.DriveEnd.TheVariants.{Closed as AllMade, Cancelled as GivenUp}
use Rattle.svn_model.specs.declared.drive_fault.DriveFault.{DriveFault}
use Rattle.svn_model.specs.Nodes.{WorkingCopy, get_in}
use Rattle.svn_model.specs.Effects.{after}
use Rattle.svn_run.specs.declared.outcome.Outcome.{Outcome}
use Rattle.svn_run.specs.declared.outcome.Outcome.TheVariants.{Closed, Aborted}
use Rattle.svn_run.specs.UpdateTheorem.{Nodes, made_in, accepted_in, late_in, IfClosed, IfAborted, IfCancelled, IfStopped, cause_at}

pub record CameTo (drive : List Call) (mode : Mode) (limit : Option ℕ) (w0 : WorkingCopy) (left : Nodes) (o : Outcome) : Type 0 where
  pub copy : (p : Path) → get_in left p ≡ after mode w0 (take (accepted_in o) drive) p
  pub accepted : accepted_in o ≤ made_in o
  pub made : made_in o ≤ length drive
  pub closed : IfClosed o (λ calls. calls ≡ length drive)
  pub aborted : IfAborted o (λ accepted. accepted < length drive)
  pub within : IfSome limit (λ n. made_in o ≤ n)
  pub cancelled : IfCancelled o (λ made accepted. (limit ≡ Some made) × (accepted ≡ made) × (made < length drive))
  pub cause : IfStopped o (λ made accepted cause. cause ≡ cause_at limit made accepted)
  pub late : IfSome (late_in o) (λ n. (n ≡ accepted_in o + 1) × (n ≤ made_in o))

-- there the driver stops at the first call that is refused
pub record CameInTurn (drive : List Call) (mode : Mode) (limit : Option ℕ) (w0 : WorkingCopy) (left : Nodes) (o : Outcome) : Type 0 where
  pub came : CameTo drive mode limit w0 left o
  pub one_more : made_in o ≤ accepted_in o + 1

abbrev pub turn_outcome : Option ℕ → Result DriveEnd DriveFault → ℕ → ℕ → Outcome
turn_outcome limit (Ok (AllMade calls)) made accepted = Closed calls
turn_outcome limit (Ok (GivenUp calls)) made accepted = Aborted made accepted None (cause_at limit made accepted)
turn_outcome limit (Err fault) made accepted = Aborted made accepted None (cause_at limit made accepted)
