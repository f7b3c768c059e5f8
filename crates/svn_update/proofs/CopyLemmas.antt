-- Commands on the working copy, where there is one.
use Rattle.std.proofs.Common.{◌≡◌, ℕ, Bool, ap, sym, subst, Option, Some, None, Result, Ok, Err}
use Rattle.std.specs.Prelude.{IfErr, OnOk, OnErr}
use Rattle.svn_types.specs.Names.{Path}
use Rattle.svn_repo.specs.History.{History}
use Rattle.svn_model.specs.declared.wc_fault.WcFault.{WcFault}
use Rattle.svn_model.specs.Follow.{DriveInput}
use Rattle.svn_model.specs.Nodes.{WorkingCopy, get_in, InPathOrder, IsTrueOf}
use Rattle.svn_run.specs.declared.outcome.Outcome.{Outcome}
use Rattle.svn_run.specs.declared.outcome.RunFault.{RunFault}
use Rattle.svn_run.specs.UpdateTheorem.{Asked, Nodes, asked}
use Rattle.svn_editor.specs.declared.mode.Mode.TheVariants.{Update}
use Rattle.svn_script.specs.declared.command_line.Settings.{Settings}
use Rattle.svn_report.specs.Reports.{ReportView}
use Rattle.svn_report.specs.LawfulReports.{IsReport}
use Rattle.svn_model.specs.Checks.{IsCheckable, target_fault}
use Rattle.svn_model.specs.Crawl.{crawl}
use Rattle.svn_model.specs.Drive.{IsDrive}
use Rattle.svn_model.specs.TreeCalls.{drive_calls}
use Rattle.svn_drive.specs.declared.request.Request.{Request}
use Rattle.svn_drive.specs.Requests.{requested, input_of}
use Rattle.law_drive.specs.Laws.{the_calls_are_a_drive}
use Rattle.law_update.specs.Laws.{IsTrueCopy, crawl_says_what_stands}
use Rattle.svn_update.specs.declared.answer.Answer.{Answer}
use Rattle.svn_update.specs.declared.answer.Answer.TheVariants.{Driven, Ended, Refused}
use Rattle.svn_update.specs.declared.answer.Refusal.TheVariants.{Drive as DriveRefused, Run as RunRefused}
use Rattle.svn_update.specs.Commands.{OnCopy, AnswersBuilder, AnswersDrive, AnswersRun, IsRecorded, answer_built}
use Rattle.svn_update.specs.Runs.{ScriptRun}
use Rattle.svn_update.specs.ScriptStates.{ScriptState}

-- what is returned for the present copy
pub on_copy : (P : Nodes → Type 0) (old new : Option Nodes) (a : Answer) (w : Nodes) → old ≡ Some w → P w → OnCopy P old new a
on_copy P old new a w there h = subst (λ (o : Option Nodes). OnCopy P o new a) (sym there) h

-- what is returned for a copy that a command would change
pub on_changed : (before h : History) (copy : Option Nodes) (w left : Nodes) (r : Result (Unit {0}) WcFault) (a : Answer)
    (Answers : History → Nodes → Answer → Type 0)
    → before ≡ h → copy ≡ Some w → a ≡ answer_built r → Answers before w (answer_built r) → OnCopy (λ w. Answers h w a) copy (Some left) a
on_changed before h copy w left r a Answers same there is did =
    on_copy (λ w. Answers h w a) copy (Some left) a w there
    (subst (Answers h w) (sym is) (subst (λ (h : History). Answers h w (answer_built r)) same did))

-- what a run of a true copy returns
abbrev pub answer_run : Result Outcome RunFault → Answer
answer_run (Ok outcome) = Ended outcome
answer_run (Err fault) = Refused (RunRefused fault)

pub run_answers : (s : Settings) (a : Asked) (left : Nodes) (r : Result Outcome RunFault) (answer : Answer) → answer ≡ answer_run r
    → IsTrueOf a.history (get_in a.copy) → InPathOrder left → ScriptRun s a left r → AnswersRun s a (Some left) answer
run_answers s a left (Ok outcome) answer is truth in_order ran =
    subst (AnswersRun s a (Some left)) (sym is) (truth, ran.begun, (in_order, ran.ran))
run_answers s a left (Err fault) answer is truth in_order ran =
    subst (AnswersRun s a (Some left)) (sym is) (ap (λ (w : Nodes). Some w) ran.unchanged, truth, ran.refused)

-- what a run of the present copy returns
pub on_run : (s : Settings) (inside state : ScriptState) (request : Request) (w : Nodes) (left : Option Nodes) (a : Answer)
    → inside ≡ state → inside.copy ≡ Some w → AnswersRun s (asked inside.repo w request) left a
    → OnCopy (λ w. AnswersRun s (asked state.repo w request) left a) state.copy left a
on_run s inside state request w left a is there did =
    subst (λ (t : ScriptState). OnCopy (λ w. AnswersRun s (asked t.repo w request) left a) t.copy left a) is
    (on_copy (λ w. AnswersRun s (asked inside.repo w request) left a) inside.copy left a w there did)

-- a copy that a command would change is made as its definition says, or is as it was
pub built : (fault : Option WcFault) (IsFault : WcFault → Type 0) (made : WorkingCopy) (old new : Nodes) (r : Result (Unit {0}) WcFault)
    → OnOk r ((p : Path) → get_in new p ≡ made p) → OnOk r (fault ≡ None) → IfErr r IsFault → OnErr r (new ≡ old) → InPathOrder new
    → AnswersBuilder fault IsFault made (Some old) (Some new) (answer_built r)
built fault IsFault made old new (Ok x) nodes can f u in_order = (can, (in_order, nodes))
built fault IsFault made old new (Err e) nodes can f u in_order = (ap (λ (w : Nodes). Some w) u, f)

-- the drive of a true copy
pub drives : (h : History) (w : Nodes) (d : DriveInput) (late : Bool) (a : Answer) → IsTrueOf h (get_in w) → IsRecorded d late a
    → AnswersDrive h w d late a
drives h w d late (Refused (DriveRefused e)) is r = (is, r)
drives h w d late (Driven calls) is r = (is, r.0, r.1)
drives h w d late _ is r = absurd r

-- what a true copy reports is driven by the calls of a drive
pub driven : (h : History) (w : Nodes) (r : ReportView) (target : ℕ) (late : Bool) → crawl_says_what_stands → the_calls_are_a_drive
    → IsTrueCopy h w → r ≡ crawl w
    → (let d = input_of h r (requested target Update late None) in target_fault d ≡ None → IsDrive d late (drive_calls d late))
driven h w r target late says calls true_copy is there =
    let stands = says h w true_copy in
    calls (input_of h r (requested target Update late None)) late true_copy.history (subst IsReport (sym is) stands.report)
    (subst (IsCheckable h) (sym is) stands.checkable) there
