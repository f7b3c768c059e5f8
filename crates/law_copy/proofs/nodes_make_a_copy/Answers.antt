use Rattle.law_copy.proofs.ShapedLists.{makes_copy}
use Rattle.law_copy.proofs.nodes_make_a_copy.Goals as goal

pub returns : goal.returns
returns c = makes_copy
