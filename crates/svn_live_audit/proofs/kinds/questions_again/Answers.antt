use Rattle.std.proofs.Common.{◌≡◌, ◌<◌, ◌∷◌, ◌++◌, [], length, map, Bool, Vec, Global, sym, ap, ◌∙◌, take, arith}
use Rattle.std.proofs.lemmas.List.{take_more}
use Rattle.svn_ask.specs.declared.question.Question.{Question}
use Rattle.svn_live_audit.specs.Rounds.{question_value, if_again}
use Rattle.svn_live_audit.specs.declared.finding.Finding.{Finding}
use Rattle.svn_live_audit.proofs.Lookings.{looked_at, one_more, none_more}
use Rattle.svn_live_audit.proofs.kinds.questions_again.Goals as goal
use Rattle.svn_live_audit.proofs.kinds.questions_again.Goals.{then-finding+in_ok-extend_from_slice, else-finding}

pub loop-finding-preserved : goal.loop-finding-preserved
loop-finding-preserved c =
    let i = c.loop-finding.finding-index in
    let findings = c.args.findings.now in
    let finding = c.finding-item.result in
    let done = c.loop-finding.questions.items in
    let new = c.if-finding.questions.items in
    let within : i < length findings = omega arith in
    let more = take_more findings i finding within ∙ ap (λ (f : Finding). take i findings ++ f ∷ []) (sym c.finding-item.is) in
    looked_at (λ (f : Finding). if_again f.asks_again f.untrue) findings i finding (map question_value done) (map question_value new) more
    c.loop-finding.invariant
    (elim c.if-finding.branch [
      | then-finding+in_ok-extend_from_slice w ↦ one_more question_value done new _ (if_again finding.asks_again finding.untrue)
          (ap (λ (v : Vec Question Global). v.items) w.questions-is ∙ w.in_ok-extend_from_slice.ensures.items)
          (ap (λ b. if_again b finding.untrue) w.if-finding.true)
      | else-finding w ↦ none_more question_value done new (if_again finding.asks_again finding.untrue)
          (ap (λ (v : Vec Question Global). v.items) w.questions-is) (ap (λ b. if_again b finding.untrue) w.if-finding.false)
    ])
