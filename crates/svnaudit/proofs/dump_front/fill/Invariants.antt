use Rattle.std.proofs.Common.{◌≤◌}
use Rattle.svnaudit.proofs.dump_front.fill.Given as goal

abbrev pub invariant-reads : goal.invariant-reads
invariant-reads g l = l.filled ≤ 6
