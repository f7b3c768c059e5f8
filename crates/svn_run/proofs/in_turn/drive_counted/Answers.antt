use Rattle.std.proofs.Common.{refl, ap, subst}
use Rattle.svn_drive.specs.Requests.{input_of}
use Rattle.svn_model.specs.Ends.{Drives}
use Rattle.svn_model.specs.TreeCalls.{drive_calls}
use Rattle.svn_run.specs.declared.counted.Counted.{Counted}
use Rattle.svn_run.specs.contracts.counted.CountedEditor.TheImpl.{answers-value}
use Rattle.svn_run.proofs.Counting.{came}
use Rattle.svn_run.proofs.DriveCalls.{drive_inner}
use Rattle.svn_run.proofs.in_turn.drive_counted.Goals as goal

pub returns : goal.returns
returns g c = λ w0 carried accept.
    let mode = c.args.counted.now.carrier.mode.now in
    let d = input_of c.args.repo.now c.args.report.now c.args.request.now in
    let late = c.args.request.now.options.late_texts in
    let limit = c.args.request.now.options.cancel_after in
    let answers = (answers-value g.row.L g.L.Listener g.L.Listener-dict).it in
    let drove = subst (λ f. Drives answers limit f (drive_calls d late) c.drive_tested.result c.args.counted.now c.drive_tested.new.editor)
    c.requires.target c.drive_tested.ensures in
    came answers (λ (x : Counted g.row.L.Denot). x.carrier.mode.now) (λ (x : Counted g.row.L.Denot). x.carrier.pending)
    (λ (x : Counted g.row.L.Denot). x.carrier.copy.nodes.entries) (λ (x : Counted g.row.L.Denot). x.made)
    (λ (x : Counted g.row.L.Denot). x.accepted) (λ e call r f h. (h.0, ap (λ m. m.now) h.1)) c.laws.ensures.more mode w0
    (drive_calls d late) (drive_inner d late (drive_calls d late) c.requires.drive) accept limit c.args.counted.now
    (record { carried = carried; mode_is = refl; made_is = c.requires.made; accepted_is = c.requires.accepted }) c.drive_tested.result
    c.drive_tested.new.editor drove
