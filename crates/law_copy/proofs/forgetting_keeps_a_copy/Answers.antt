use Rattle.law_copy.proofs.Builds.{forgets}
use Rattle.law_copy.proofs.forgetting_keeps_a_copy.Goals as goal

pub returns : goal.returns
returns c = forgets
