-- The theorem of a run, from the laws and what became of the drive's calls.
use Rattle.std.proofs.Common.{◌≡◌, List, length, take, sym, ap, subst, ◌∙◌}
use Rattle.std.specs.Prelude.{None}
use Rattle.std.proofs.Math.Seq.{take-length}
use Rattle.md5.specs.Md5.{md5}
use Rattle.svn_types.specs.Names.{Path}
use Rattle.svn_editor.specs.declared.call.Call.{Call}
use Rattle.svn_model.specs.Checks.{target_fault}
use Rattle.svn_model.specs.Crawl.{crawl}
use Rattle.svn_model.specs.Drive.{IsDrive}
use Rattle.svn_model.specs.Effects.{after, AllAccepted}
use Rattle.svn_model.specs.Nodes.{get_in, InPathOrder, IsTrueOf, IsWorkingCopy}
use Rattle.svn_model.specs.TreeCalls.{drive_calls}
use Rattle.svn_model.specs.Result.{result}
use Rattle.svn_repo.specs.History.{History}
use Rattle.svn_drive.specs.declared.request.Request.{Request}
use Rattle.svn_drive.specs.Requests.{input_of}
use Rattle.law_update.specs.Laws.{IsTrueCopy, IsRequestOf, Composes}
use Rattle.svn_run.specs.declared.outcome.Outcome.{Outcome}
use Rattle.svn_run.specs.declared.outcome.Outcome.TheVariants.{Closed, Aborted}
use Rattle.svn_run.specs.RunLaws.{RunLaws}
use Rattle.svn_run.specs.Coming.{CameTo}
use Rattle.svn_run.specs.UpdateTheorem.{Nodes, Asked, input, accepted_in, IfClosed, IsSound, Ran}

-- the driver's calls
abbrev pub drive_for : Asked → List Call
drive_for a = drive_calls (input a) a.request.options.late_texts

-- what a true copy asks for
pub asks : RunLaws → (h : History) (nodes : Nodes) (w : Request) → IsTrueCopy h nodes
    → target_fault (input_of h (crawl nodes) w) ≡ None → IsRequestOf (input_of h (crawl nodes) w) (get_in nodes)
asks laws h nodes w is has =
    let says = laws.reports h nodes is in
    record {
      history = is.history;
      shape = is.shape;
      true_of = is.true_of;
      report = says.report;
      checkable = says.checkable;
      describes = says.describes;
      has_target = has;
    }

module _ (laws : RunLaws) (a : Asked) (true_copy : IsTrueCopy a.history a.copy) (target : target_fault (input a) ≡ None) where
  pub ask : IsRequestOf (input a) (get_in a.copy)
  ask = asks laws a.history a.copy a.request true_copy target

  pub the_drive : IsDrive (input a) a.request.options.late_texts (drive_for a)
  the_drive = laws.drives (input a) a.request.options.late_texts true_copy.history ask.report ask.checkable target

  pub composed : Composes (input a) (get_in a.copy) (drive_for a)
  composed = laws.composes (input a) (get_in a.copy) a.request.options.late_texts (drive_for a) ask the_drive

  -- the copy accepts each of the calls after those before it
  pub drive_accepted : AllAccepted md5 a.request.mode (get_in a.copy) (drive_for a)
  drive_accepted = composed.accepted

  module _ (left : Nodes) (o : Outcome) (came : CameTo (drive_for a) a.request.mode a.request.options.cancel_after (get_in a.copy) left o) where
    prefix : IsWorkingCopy (after a.request.mode (get_in a.copy) (take (accepted_in o) (drive_for a)))
        × IsTrueOf a.history (after a.request.mode (get_in a.copy) (take (accepted_in o) (drive_for a)))
    prefix = laws.stays_true (input a) (get_in a.copy) a.request.options.late_texts (drive_for a) (accepted_in o) ask the_drive

    pub same : after a.request.mode (get_in a.copy) (take (accepted_in o) (drive_for a)) ≡ get_in left
    same = λ i p. sym (came.copy p) i

    pub sound : IsSound a left
    sound = record { truth = subst (IsTrueOf a.history) same prefix.1; shape = subst IsWorkingCopy same prefix.0 }

    pub ends : (o : Outcome) → ((p : Path) → get_in left p ≡ after a.request.mode (get_in a.copy) (take (accepted_in o) (drive_for a)) p)
        → IfClosed o (λ calls. calls ≡ length (drive_for a))
        → IfClosed o (λ calls. (calls ≡ length (drive_for a)) × ((p : Path) → get_in left p ≡ result (input a) p))
    ends (Closed calls) copy all = (
      all,
      λ p. copy p ∙ ap (λ cs. after a.request.mode (get_in a.copy) cs p) (ap (λ n. take n (drive_for a)) all ∙ take-length (drive_for a))
          ∙ composed.ends p,
    )
    ends (Aborted made accepted late cause) copy all = tt

    module _ (in_order : InPathOrder left) where
      pub stays : IsTrueCopy a.history left
      stays = record { history = true_copy.history; in_order = in_order; shape = sound.shape; true_of = sound.truth }

      abbrev pub ran : Ran a left o
      ran = record {
        drive = drive_for a;
        is_drive = the_drive;
        copy = came.copy;
        accepted = came.accepted;
        made = came.made;
        closed = ends o came.copy came.closed;
        aborted = came.aborted;
        limit = came.within;
        cancelled = came.cancelled;
        cause = came.cause;
        late = came.late;
        resumed = laws.resumes (input a) (get_in a.copy) a.request.options.late_texts (drive_for a) (accepted_in o) left ask the_drive in_order came.copy;
        later = λ next calls has drove. laws.composes (input_of a.history (crawl left) next) (get_in left) next.options.late_texts calls
            (asks laws a.history left next stays has) drove;
      }
