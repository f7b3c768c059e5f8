use Rattle.std.proofs.Common.{map, ap, ◌∙◌}
use Rattle.svn_model.specs.Nodes.{get_in}
use Rattle.svn_live_audit.specs.Rounds.{question_value, first_round}
use Rattle.svn_live_audit.specs.Places.{place_value}
use Rattle.svn_live_audit.proofs.Conversing.{are_asked, first_round_is}
use Rattle.svn_live_audit.proofs.link.Link.findings.Goals as goal

pub returns : goal.returns
returns g c =
    first_round_is g.R.Read.remaining _ _ _ _ (get_in c.args.copy.now) c.args.copy.now _ _ _ (λ v. v.items) c.findings.result
    (ap get_in c.new-nodes.ensures.copy)
    (c.new-nodes.ensures.round ∙ ap first_round (ap (map place_value) c.deref-2.ensures.value ∙ c.in_ok-places.ensures))
    (ap (map question_value) c.deref-3.ensures.value ∙ c.in_ok-questions.ensures
    ∙ are_asked c.deref.result.now c.args.copy.now (ap (map place_value) c.deref.ensures.value ∙ c.in_ok-places.ensures))
    c.in_ok-converse.ensures c.findings.ensures.found
