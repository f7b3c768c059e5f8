use Rattle.std.proofs.Common.{◌≡◌, ◌∙◌, ap, refl, subst, sym, false, None}
use Rattle.std.proofs.lemmas.Result.{on_ok_weaker, IfErr-weaker}
use Rattle.svn_answers.specs.declared.topic.TopicFault.TheVariants.{Write as NotWritten}
use Rattle.svn_editor.specs.declared.mode.Mode.TheVariants as modes
use Rattle.svn_wc.specs.contracts.applier.ApplierEditor.TheImpl.{ghosts as applier}
use Rattle.svn_wc.specs.declared.applier.Applier.{Applier}
use Rattle.svn_drive.specs.Requests.{requested}
use Rattle.svn_answers.specs.Topics.{AreLeft, update_to, calls_to, IsNodesFault}
use Rattle.svn_answers.proofs.Refusing.{nodes_refused, nodes_left, target_is_there}
use Rattle.svn_answers.proofs.topics.write_updated.Goals as goal

pub returns-in-Ok-drive_request-clause-written : goal.returns-in-Ok-drive_request-clause-written
returns-in-Ok-drive_request-clause-written g c =
    let h = c.args.repo.now in
    let nodes = c.args.copy.now in
    let asked : c.update-request.result ≡ update_to h c.args.rev =
    c.update-request.ensures ∙ ap (λ rev. requested rev modes.Update false None) c.or_latest.ensures in
    let left =
    nodes_left h nodes c.args.rev applier.answers _ _ c.in_ok-report.ensures.report asked _ _ (λ (a : Applier). a.edit)
    (λ (a : Applier). a.copy.now) (λ (a : Applier). a.mode) (λ m n call answer took. (took.0, took.1)) (c.in-Ok.ensures.begun, c.in-Ok.ensures.mode) _
    c.in-Ok-drive_request.ensures.calls in
    let there =
    target_is_there h nodes c.args.rev applier.answers _ _ c.in_ok-report.ensures.report asked _ _ _ c.in-Ok-drive_request.ensures.calls in
    let left_of : AreLeft nodes (calls_to h nodes c.args.rev) c.copy.result.now =
    subst (AreLeft nodes (calls_to h nodes c.args.rev)) (sym c.copy.ensures) left in
    on_ok_weaker c.write_nodes.result
    (λ written. (
      _,
      record {
        updated = c.copy.result.now;
        left = left_of;
        target = λ true_of p. left_of p ∙ c.updates_lead_to_targets.ensures true_of c.args.rev there p;
        in_order = c.write_nodes.ensures.in_order;
        lines = refl;
      },
      written,
    ))
    c.write_nodes.ensures.written

pub returns-clause-fault : goal.returns-clause-fault
returns-clause-fault g c = λ _.
    let h = c.args.repo.now in
    let nodes = c.args.copy.now in
    let asked : c.update-request.result ≡ update_to h c.args.rev =
    c.update-request.ensures ∙ ap (λ rev. requested rev modes.Update false None) c.or_latest.ensures in
    subst (IsNodesFault h nodes c.args.rev) (sym c.drive_fault.ensures)
    (nodes_refused h nodes c.args.rev applier.answers _ _ c.in_ok-report.ensures.report asked _ _ (λ (a : Applier). a.edit)
    (λ (a : Applier). a.copy.now) (λ (a : Applier). a.mode) (λ m n call answer took. (took.0, took.1)) (c.in-Ok.ensures.begun, c.in-Ok.ensures.mode) _
    c.in-Err.ensures.calls)

-- the nodes are written, unless the writer fails
pub returns-in-Ok-drive_request-clause-fault : goal.returns-in-Ok-drive_request-clause-fault
returns-in-Ok-drive_request-clause-fault g c =
    IfErr-weaker c.write_nodes.result (λ e. e ≡ NotWritten) _ (λ e unwritten. λ other. absurd (other unwritten)) c.write_nodes.ensures.fault

pub returns-in-Ok-drive_request-clause-unwritten : goal.returns-in-Ok-drive_request-clause-unwritten
returns-in-Ok-drive_request-clause-unwritten g c =
    IfErr-weaker c.write_nodes.result (λ e. e ≡ NotWritten) _ (λ e unwritten. λ other. absurd (other unwritten)) c.write_nodes.ensures.fault

pub returns-in-Ok-drive_request-clause-there : goal.returns-in-Ok-drive_request-clause-there
returns-in-Ok-drive_request-clause-there g c =
    let asked : c.update-request.result ≡ update_to c.args.repo.now c.args.rev =
    c.update-request.ensures ∙ ap (λ rev. requested rev modes.Update false None) c.or_latest.ensures in
    let there =
    target_is_there c.args.repo.now c.args.copy.now c.args.rev applier.answers _ _ c.in_ok-report.ensures.report asked _ _ _
    c.in-Ok-drive_request.ensures.calls in
    on_ok_weaker c.write_nodes.result (λ written. there) c.write_nodes.ensures.written
