use Rattle.svn_live_audit.proofs.Verdicts.{verdicts_hold}
use Rattle.svn_live_audit.proofs.laws.verdicts_hold.Goals as goal

pub returns : goal.returns
returns c = verdicts_hold
