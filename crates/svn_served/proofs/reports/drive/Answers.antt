use Rattle.std.proofs.Common.{refl, subst}
use Rattle.std.proofs.lemmas.Result.{IfOk-weaker}
use Rattle.std.specs.Io.KnownBytes.{Appends}
use Rattle.svn_replies.specs.Refusals.{as_read}
use Rattle.svn_served.specs.Reports.{reported}
use Rattle.svn_served.proofs.ReportRuns.{at_first, answers_drive, answers_failure}
use Rattle.svn_served.proofs.reports.drive.Goals as goal

pub returns-in-Ok : goal.returns-in-Ok
returns-in-Ok g c =
    let s = c.args.view.served.now in
    let before = g.W.Write.contents c.args.writer.now in
    let between = g.W.Write.contents c.write_out.new.writer in
    let first = at_first _ _ c.deref.result.now c.new-out.ensures.items c.in_ok-push_no_mechanism.ensures c.deref.ensures.value in
    IfOk-weaker c.write_drive.result _ _
    (λ driven h.
    answers_drive s (reported s.repo (as_read c.args.reporting)) (c.in-Ok.wanted, c.in-Ok.report) driven h.0 before between
    (g.W.Write.contents c.write_drive.new.writer) c.in-Ok.ensures h.1 (subst (Appends before between) first c.in_ok-write_out-in-Ok.ensures) h.2)
    c.write_drive.ensures

pub returns : goal.returns
returns g c =
    let s = c.args.view.served.now in
    let before = g.W.Write.contents c.args.writer.now in
    let after = g.W.Write.contents c.write_out-in-Err.new.writer in
    let first = at_first _ _ c.push_no_mechanism.new.out.items c.new-out.ensures.items c.in_ok-push_no_mechanism.ensures refl in
    answers_failure s (reported s.repo (as_read c.args.reporting)) c.in-Err.refused _ c.push_refused.new.out.items before after c.in-Err.ensures first
    c.in_ok-push_refused-in-Err.ensures (subst (Appends before after) c.deref-in-Err.ensures.value c.in_ok-write_out-in-Err.ensures)
