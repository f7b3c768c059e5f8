-- The copy that an update of a folder leaves there.
--     request_at what rev      what is asked of a run on the whole copy, at this revision
--     IsArrived h nodes w stopped left      the copy is there that a run left which was asked for this, and was stopped there
--     IsUpdated h nodes old changes new      each path has what the changes say, to a copy that is true of the repository, and these are all changes
--     IsToUpdate h nodes changes      these are all changes that would lead to a copy which is true of the repository
use Rattle.std.specs.Prelude.{ℕ, List, Option}
use Rattle.std.specs.Option.{option_copied}
use Rattle.svn_repo.specs.History.{History}
use Rattle.svn_model.specs.Nodes.{get_in, IsTrueOf}
use Rattle.svn_drive.specs.declared.request.Request.{Request}
use Rattle.svn_drive.specs.Requests.{requested}
use Rattle.svn_folder.specs.States.{Seen}
use Rattle.svn_folder.specs.Pasts.{Past}
use Rattle.svn_disk.specs.Crashes.{IsThere}
use Rattle.svn_disk.specs.Ends.{Turns}
use Rattle.svn_disk.specs.Changes.{AreChanged, HasEachChange}
use Rattle.svn_disk.specs.declared.plan.PathChange.{PathChange}
use Rattle.svn_run.specs.UpdateTheorem.{Nodes, asked}
use Rattle.svn_disk_update.specs.declared.target.Aim.{Aim}
use Rattle.svn_disk_update.specs.Reaching.{IsReached, mode_to}

abbrev pub request_at : Aim → ℕ → Request
request_at what rev = requested rev (mode_to (option_copied what.to)) what.options.late_texts what.options.cancel_after

pub record IsArrived (h : History) (nodes : Nodes) (w : Request) (stopped : Option ℕ) (left : Seen) : Type 0 where
  pub copy : Nodes
  pub reached : IsReached (asked h nodes w) copy stopped
  pub there : IsThere copy left

pub record IsUpdated (h : History) (nodes : Nodes) (old : Past) (changes : List PathChange) (new : Past) : Type 0 where
  pub copy : Nodes
  pub is_true : IsTrueOf h (get_in copy)
  pub each : HasEachChange nodes copy changes
  pub ends : Turns (λ before left. AreChanged nodes copy changes left) old new

pub record IsToUpdate (h : History) (nodes : Nodes) (changes : List PathChange) : Type 0 where
  pub copy : Nodes
  pub is_true : IsTrueOf h (get_in copy)
  pub each : HasEachChange nodes copy changes
