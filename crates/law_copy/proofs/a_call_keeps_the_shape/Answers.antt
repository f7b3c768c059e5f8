use Rattle.law_copy.proofs.Shape.{shape_stays}
use Rattle.law_copy.proofs.a_call_keeps_the_shape.Goals as goal

pub returns : goal.returns
returns c = shape_stays
