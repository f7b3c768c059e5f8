use Rattle.std.proofs.Common.{[], refl}
use Rattle.std.proofs.KnownBytes.{Appends-nil, Appends-trans}
use Rattle.svn_answers.specs.Answers.{compared}
use Rattle.svn_answers.proofs.Answering.{none_yet, next_word}
use Rattle.svn_answers.proofs.Hearing.{hears_both}
use Rattle.svn_answers.proofs.asked.Asked.check.Goals as goal

pub loop-name-init : goal.loop-name-init
loop-name-init g c = ([], [], none_yet _ _ _ _, Appends-nil _, refl)

pub loop-name-preserved : goal.loop-name-preserved
loop-name-preserved g c =
    let inv = c.loop-name.invariant in
    let did = c.in_ok-answer.ensures in (
      _,
      _,
      next_word (g.C.Copies.opens c.args.self.now.copies.now) (g.C.Copies.stayed c.args.self.now.copies.now) (compared c.args.self.now.history)
          c.args.names.now c.loop-name.name-index _ c.loop-name.verdict c.in_ok-answer.answer c.worse-verdict.result inv.0 inv.1 did.0
          c.loop-name-test.true inv.2 did.1 did.2 c.worse-verdict.ensures,
      Appends-trans _ _ _ _ _ inv.3 did.3,
      hears_both g.N.Notices.hears _ _ _ _ _ inv.4 did.4,
    )
