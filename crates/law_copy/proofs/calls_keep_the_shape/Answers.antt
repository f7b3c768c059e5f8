use Rattle.law_copy.proofs.Shape.{calls_keep}
use Rattle.law_copy.proofs.calls_keep_the_shape.Goals as goal

pub returns : goal.returns
returns c = calls_keep
