use Rattle.law_copy.proofs.Builds.{places}
use Rattle.law_copy.proofs.placing_keeps_a_copy.Goals as goal

pub returns : goal.returns
returns c = places
