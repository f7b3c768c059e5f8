use Rattle.law_copy.proofs.Builds.{switches}
use Rattle.law_copy.proofs.switching_keeps_a_copy.Goals as goal

pub returns : goal.returns
returns c = switches
