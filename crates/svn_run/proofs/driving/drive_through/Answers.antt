use Rattle.std.proofs.Common.{◌∙◌, sym, ap, subst}
use Rattle.svn_link.specs.Ends.{LinkEnd, NoticeEnd}
use Rattle.svn_model.specs.Ends.{Drives}
use Rattle.svn_drive.specs.Requests.{input_of, drive_for}
use Rattle.svn_run.specs.Driven.{IsSent}
use Rattle.svn_run.specs.Senders.{Answered}
use Rattle.svn_run.proofs.DriveCalls.{drive_open, drive_closes, drive_some}
use Rattle.svn_run.proofs.Sending.{sends}
use Rattle.svn_run.proofs.driving.drive_through.Goals as goal

pub returns : goal.returns
returns g c =
    let asked = c.args.request.now in
    let d = input_of c.args.repo.now c.args.report.now asked in
    let late = asked.options.late_texts in
    let limit = asked.options.cancel_after in
    let drive = drive_for c.args.repo.now c.args.report.now asked in
    let is = c.requires.drive in
    let out = c.new-sender.ensures.0 in
    let watch = c.new-sender.ensures.1 in
    let drove = subst (λ f. Drives Answered limit f drive c.drive_tested-end.result c.new-sender.result c.drive_tested-end.new.editor)
    c.requires.target c.drive_tested-end.ensures in
    let all = sends drive limit (drive_some d late drive is) (drive_closes d late drive is) (drive_open d late drive is) c.new-sender.result
    (ap (λ (e : LinkEnd). e.calls) out ∙ c.requires.fresh)
    c.drive_tested-end.result c.drive_tested-end.new.editor c.end.new.self drove c.end.ensures in
    let ends = c.into_ends-outbox.ensures in
    record {
      link = ap (λ (e : LinkEnd). e.link) ends.0 ∙ all.link ∙ ap (λ (e : LinkEnd). e.link) out;
      notice = ap (λ (e : NoticeEnd). e.notice) ends.1 ∙ all.notice ∙ ap (λ (e : NoticeEnd). e.notice) watch;
      sent = subst (λ (y : LinkEnd × NoticeEnd). IsSent drive limit y.0.calls y.1.number c.drive_tested-end.result)
          (λ i. (sym ends.0 i, sym ends.1 i)) all.sent;
    }
