-- What a run on two threads returns.
--     threads_outcome limit end sent accepted      the outcome, by how the driver ended and what was counted
--     IsFinished limit d u outcome passed      what the two threads returned was put together
use Rattle.std.specs.Prelude.{◌≡◌, ℕ, ◌-◌, length, nat_eq, Option, Some, None, Result, Ok, Err, if◌then◌else◌}
use Rattle.svn_editor.specs.declared.fault.EditFault.TheVariants.{Late}
use Rattle.svn_link.specs.Ends.{Passed}
use Rattle.svn_link.specs.Notice.{IsNoneOrSame}
use Rattle.svn_model.specs.declared.drive_end.DriveEnd.{DriveEnd}
use Rattle.svn_model.specs.declared.drive_end.DriveEnd.TheVariants.{Closed as AllMade, Cancelled as GivenUp}
use Rattle.svn_model.specs.declared.drive_fault.DriveFault.{DriveFault}
use Rattle.svn_model.specs.declared.drive_fault.DriveFault.TheVariants.{Editor}
use Rattle.svn_run.specs.declared.driving.Driven.{Driven}
use Rattle.svn_run.specs.declared.taking.Taken.{Taken}
use Rattle.svn_run.specs.declared.outcome.Outcome.{Outcome}
use Rattle.svn_run.specs.declared.outcome.Outcome.TheVariants.{Closed, Aborted}
use Rattle.svn_run.specs.UpdateTheorem.{cause_at}

abbrev pub made_of : Result DriveEnd DriveFault → ℕ → ℕ
made_of (Ok (AllMade calls)) sent = sent
made_of (Ok (GivenUp calls)) sent = sent - 1
made_of (Err fault) sent = sent - 1

abbrev pub late_of : Result DriveEnd DriveFault → Option ℕ
late_of (Err (Editor (Late n))) = Some n
late_of _ = None

abbrev pub threads_outcome : Option ℕ → Result DriveEnd DriveFault → ℕ → ℕ → Outcome
threads_outcome limit end sent accepted =
    if nat_eq accepted sent then Closed accepted
    else Aborted (made_of end sent) accepted (late_of end) (cause_at limit (made_of end sent) accepted)

pub record IsFinished (limit : Option ℕ) (d : Driven) (u : Taken) (o : Outcome) (passed : Passed) : Type 0 where
  pub sent : passed.sent ≡ d.outbox.calls
  pub taken : passed.taken ≡ u.inbox.calls
  pub whole : passed.taken ≡ passed.sent
  pub seen : IsNoneOrSame d.watcher.number u.teller.number
  pub outcome : o ≡ threads_outcome limit d.end (length passed.sent) u.accepted
