use Rattle.std.proofs.lemmas.Result.{IfOk-weaker}
use Rattle.svn_answers.specs.contracts.fault.TellFaultDisplay.TheImpl.{output-value}
use Rattle.svn_answers.specs.declared.notice_lines.WrittenNotices.{WrittenNotices}
use Rattle.svn_answers.proofs.Hearing.{all_written}
use Rattle.svn_answers.proofs.live.Live.check_written.Goals as goal

pub returns : goal.returns
returns g c =
    let N = WrittenNotices g.row.C.Denot g.row.E.Denot in
    let text = (output-value g.row.C-Fault g.C.Fault.Display g.C.Fault.Display-dict).it in
    IfOk-weaker c.check.result _ _
    (λ v told. (
      told.0,
      told.1,
      told.2,
      told.3,
      all_written (λ (n : N). n.copies) (λ (n : N). n.failed) (λ (n : N). g.E.Write.contents n.output) (λ x. g.C.Copies.lacks_memory x.now) text
          told.1 _ _ told.4,
    ))
    c.check.ensures.answers
