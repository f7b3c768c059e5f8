use Rattle.std.proofs.Common.{◌+◌, ◌-◌, ◌*◌, length}
use Rattle.svn_pool.specs.Linked.{bare}
use Rattle.svn_pool.proofs.Pruning.{IsPruning}
use Rattle.svn_pool.proofs.prune.prune.Given as goal

abbrev pub invariant-walk : goal.invariant-walk
invariant-walk g l = IsPruning l.initial.pools l.pools l.initial.stock l.stock l.top l.at l.first

abbrev pub decreases-walk : goal.decreases-walk
decreases-walk g l = 18446744073709551616 * length (bare l.pools) + (18446744073709551616 - l.at)
