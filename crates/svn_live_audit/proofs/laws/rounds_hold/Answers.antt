use Rattle.svn_live_audit.proofs.Rounds.{rounds_hold}
use Rattle.svn_live_audit.proofs.laws.rounds_hold.Goals as goal

pub returns : goal.returns
returns c = rounds_hold
