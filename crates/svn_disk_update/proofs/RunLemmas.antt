-- What a run on two threads leaves, by the update theorem, and what is said of it.
use Rattle.std.proofs.Common.{ℕ, Ok}
use Rattle.svn_drive.specs.declared.request.Request.{Request}
use Rattle.svn_link.specs.Ends.{Passed}
use Rattle.svn_model.specs.Nodes.{get_in, IsTrueOf}
use Rattle.svn_repo.specs.History.{History}
use Rattle.svn_run.specs.declared.outcome.Outcome.{Outcome}
use Rattle.svn_run.specs.UpdateTheorem.{Asked, Nodes, asked, ThreadsTheorem}
use Rattle.svn_disk_update.specs.declared.target.Reached.{Reached}
use Rattle.svn_disk_update.specs.Reaching.{IsLeft, IsReached, IsStop}

pub is_left : (a : Asked) (capacity : ℕ) (left : Nodes) (x : Outcome × Passed) → ThreadsTheorem a capacity left (Ok x) → IsLeft a left x.0
is_left a capacity left x t = record { ran = t.ran.ran; truth = t.sound.truth }

pub is_reached : (a : Asked) (outcome : Outcome) (r : Reached) → IsLeft a r.copy outcome → IsStop outcome r.stopped → IsReached a r.copy r.stopped
is_reached a outcome r l s = record { outcome = outcome; ran = l.ran; stop = s; truth = l.truth }

pub reached_truth : (h : History) (nodes : Nodes) (w : Request) (r : Reached) → IsReached (asked h nodes w) r.copy r.stopped → IsTrueOf h (get_in r.copy)
reached_truth h nodes w r l = l.truth
