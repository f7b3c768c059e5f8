use Rattle.std.proofs.Common.{◌≡◌, ◌∙◌, ap, subst, sym, false, List, None}
use Rattle.svn_editor.specs.declared.call.Call.{Call}
use Rattle.svn_editor.specs.contracts.recorder.RecorderEditor.TheImpl.{ghosts as recorder}
use Rattle.svn_editor.specs.declared.mode.Mode.TheVariants as modes
use Rattle.svn_drive.specs.Requests.{requested, drive_for}
use Rattle.svn_answers.specs.Topics.{update_to, IsCallsFault}
use Rattle.svn_answers.proofs.Driving.{all_kept, one_more}
use Rattle.svn_answers.proofs.Refusing.{calls_refused, target_is_there}
use Rattle.svn_answers.proofs.topics.calls_to.Goals as goal

pub returns-in-Ok-clause-calls : goal.returns-in-Ok-clause-calls
returns-in-Ok-clause-calls c =
    let asked : c.update-request.result ≡ update_to c.args.repo.now c.args.rev =
    c.update-request.ensures ∙ ap (λ rev. requested rev modes.Update false None) c.or_latest.ensures in
    c.into_calls.ensures
    ∙ all_kept recorder.answers (λ (e before : List Call). e ≡ before) (λ e f call before one at. one_more e f before call one at) _ _ _
    c.in-Ok.field-0 _ _ (ap (λ w. w.options.cancel_after) asked) c.in-Ok.ensures.calls c.new-recorder.ensures
    ∙ (λ i. drive_for c.args.repo.now (c.in_ok-report.ensures.report i) (asked i))

pub returns-clause-fault : goal.returns-clause-fault
returns-clause-fault c =
    let asked : c.update-request.result ≡ update_to c.args.repo.now c.args.rev =
    c.update-request.ensures ∙ ap (λ rev. requested rev modes.Update false None) c.or_latest.ensures in
    subst (IsCallsFault c.args.repo.now c.args.copy.now c.args.rev) (sym c.drive_fault.ensures)
    (calls_refused c.args.repo.now c.args.copy.now c.args.rev recorder.answers _ _ c.in_ok-report.ensures.report asked _ _ c.in-Err.fault
    (λ m n call why answered. answered.0) c.in-Err.ensures.calls)

pub returns-in-Ok-clause-there : goal.returns-in-Ok-clause-there
returns-in-Ok-clause-there c =
    let asked : c.update-request.result ≡ update_to c.args.repo.now c.args.rev =
    c.update-request.ensures ∙ ap (λ rev. requested rev modes.Update false None) c.or_latest.ensures in
    target_is_there c.args.repo.now c.args.copy.now c.args.rev recorder.answers _ _ c.in_ok-report.ensures.report asked _ _ _ c.in-Ok.ensures.calls
