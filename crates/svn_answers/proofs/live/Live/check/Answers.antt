use Rattle.std.proofs.Common.{[], refl, ◌∙◌}
use Rattle.std.specs.Option.{option_copied}
use Rattle.std.proofs.KnownBytes.{Appends-nil, Appends-trans}
use Rattle.svn_answers.proofs.Answering.{none_asked, next_asked, same_asked}
use Rattle.svn_answers.proofs.Hearing.{hears_both}
use Rattle.svn_answers.proofs.live.Live.check.Goals as goal

pub loop-name-init : goal.loop-name-init
loop-name-init g c = ([], [], none_asked _ _ _ _ _, Appends-nil _, refl, refl, refl)

pub loop-name-preserved : goal.loop-name-preserved
loop-name-preserved g c =
    let self = c.args.self.now in
    let remaining = g.S.Input.Read.remaining in
    let inv = c.loop-name.invariant in
    let did = c.in_ok-answer.ensures.answers in
    let same = c.in_ok-answer.ensures.same in (
      _,
      _,
      next_asked remaining (g.C.Copies.opens self.copies.now) (g.C.Copies.stayed self.copies.now) (option_copied self.url) c.args.names.now
          c.loop-name.name-index _ c.loop-name.verdict c.in_ok-answer.answer c.worse-verdict.result inv.0 inv.1 did.0 _ _ _ c.loop-name-test.true
          inv.2
          (same_asked remaining (λ copies. g.C.Copies.opens copies.now) (λ copies. g.C.Copies.stayed copies.now) c.loop-name.self.copies self.copies
          c.loop-name.self.url self.url _ did.0 c.loop-name.self.line c.check_one.new.self.line inv.5 inv.6 did.1)
          did.2 c.worse-verdict.ensures,
      Appends-trans _ _ _ _ _ inv.3 did.3,
      hears_both g.N.Notices.hears _ _ _ _ _ inv.4 did.4,
      same.0 ∙ inv.5,
      same.1 ∙ inv.6,
    )
