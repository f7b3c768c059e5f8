use Rattle.std.proofs.Common.{◌≡◌, ◌++◌, length}
use Rattle.svn_pool.specs.Readers.{targets}
use Rattle.svn_pool.proofs.chain.Chain.pages.Given as goal

abbrev pub invariant-down : goal.invariant-down
invariant-down g l = targets l.pages.items ++ l.chain ≡ l.self

abbrev pub decreases-down : goal.decreases-down
decreases-down g l = length l.chain
