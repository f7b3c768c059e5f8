use Rattle.std.proofs.Common.{ap}
use Rattle.svn_name_map.specs.Runs.{joined}
use Rattle.svn_name_map.proofs.Changed.{counted_none}
use Rattle.svn_name_map.proofs.name_map.NameMap.new.Goals as goal

pub invariant_of-result : goal.invariant_of-result
invariant_of-result g c = counted_none (joined c.new.result.items) (ap joined c.new.ensures.items)
