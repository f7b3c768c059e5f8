use Rattle.std.proofs.Common.{ap}
use Rattle.svn_pool.specs.Linked.{first_of}
use Rattle.svn_pool.proofs.links.first_child.Goals as goal

pub returns-in_default : goal.returns-in_default
returns-in_default g c = ap first_of c.in_default.ensures.value

pub returns : goal.returns
returns g c = ap first_of c.in-Some.ensures.value
