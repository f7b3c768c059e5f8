use Rattle.std.proofs.Common.{List, subst}
use Rattle.svn_live_audit.specs.declared.finding.Finding.{Finding}
use Rattle.svn_live_audit.specs.Conversations.{IsSecondRound}
use Rattle.svn_live_audit.proofs.Conversing.{audits}
use Rattle.svn_live_audit.proofs.link.Link.untrue_paths.Goals as goal

pub returns : goal.returns
returns g c =
    audits g.R.Read.remaining _ _ _ _ _ _ _ _ _ _ _ c.in_ok-findings.ensures
    (subst (λ (l : List Finding). IsSecondRound g.R.Read.remaining c.findings.new.self.ends.input c.findings.new.self.asking l
    c.reasons.new.self.ends.input c.reasons.new.self.asking c.in_ok-reasons.reasons.items) c.deref.ensures.value c.in_ok-reasons.ensures)
    c.in_ok-untrue_paths.ensures
