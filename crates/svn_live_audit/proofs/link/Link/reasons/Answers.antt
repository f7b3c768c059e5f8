use Rattle.std.proofs.Common.{map, ap, ◌∙◌}
use Rattle.svn_live_audit.specs.Rounds.{question_value}
use Rattle.svn_live_audit.proofs.Conversing.{second_round_is}
use Rattle.svn_live_audit.proofs.link.Link.reasons.Goals as goal

pub returns : goal.returns
returns g c =
    second_round_is g.R.Read.remaining _ _ _ _ c.args.findings.now _ _ _ (λ v. v.items) c.reasons.result c.new-kinds.ensures
    (ap (map question_value) c.deref.ensures.value ∙ c.in_ok-questions.ensures) c.in_ok-converse.ensures c.reasons.ensures.reasons
