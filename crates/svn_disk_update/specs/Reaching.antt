-- The copy that an update or a switch of a whole copy leads to.
--     IsReached a copy stopped      it is what a run left that was asked for this, and was stopped where the run was
--     IsLeft a left outcome      that is what the run left, and how it ended
--     IsReachedWhole h nodes target r      the same, by the target
use Rattle.std.specs.Prelude.{◌≡◌, ℕ, Option, Some, None}
use Rattle.std.specs.Option.{option_copied}
use Rattle.svn_types.specs.Names.{Path}
use Rattle.svn_repo.specs.History.{History}
use Rattle.svn_editor.specs.declared.mode.Mode.{Mode}
use Rattle.svn_editor.specs.declared.mode.Mode.TheVariants.{Update, SwitchTo}
use Rattle.svn_drive.specs.declared.request.Request.{Request}
use Rattle.svn_drive.specs.Requests.{requested}
use Rattle.svn_model.specs.Nodes.{get_in, IsTrueOf}
use Rattle.svn_run.specs.declared.outcome.Outcome.{Outcome}
use Rattle.svn_run.specs.declared.outcome.Outcome.TheVariants.{Closed, Aborted}
use Rattle.svn_run.specs.UpdateTheorem.{Asked, Nodes, asked, Ran}
use Rattle.svn_disk_update.specs.declared.target.Target.{Target}
use Rattle.svn_disk_update.specs.declared.target.Reached.{Reached}

-- none where the run came to its end, else the number of calls that the copy accepted
abbrev pub IsStop : Outcome → Option ℕ → Type 0
IsStop (Closed calls) stopped = stopped ≡ None
IsStop (Aborted made accepted late cause) stopped = stopped ≡ Some accepted

-- by the update theorem
pub record IsReached (a : Asked) (copy : Nodes) (stopped : Option ℕ) : Type 0 where
  pub outcome : Outcome
  pub ran : Ran a copy outcome
  pub stop : IsStop outcome stopped
  pub truth : IsTrueOf a.history (get_in copy)

-- the run ended so, and left that copy
pub record IsLeft (a : Asked) (left : Nodes) (outcome : Outcome) : Type 0 where
  pub ran : Ran a left outcome
  pub truth : IsTrueOf a.history (get_in left)

-- an update, or a switch where it leads to a path
abbrev pub mode_to : Option Path → Mode
mode_to None = Update
mode_to (Some path) = SwitchTo path

-- the request of a target
abbrev pub request_of : Target → Request
request_of target = requested target.rev (mode_to (option_copied target.to)) target.options.late_texts target.options.cancel_after

abbrev pub IsReachedWhole : History → Nodes → Target → Reached → Type 0
IsReachedWhole h nodes target r = IsReached (asked h nodes (request_of target)) r.copy r.stopped
