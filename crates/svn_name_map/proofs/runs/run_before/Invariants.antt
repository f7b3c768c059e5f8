use Rattle.std.proofs.Common.{◌-◌, ◌<◌, ◌≤◌, take, drop, length}
use Rattle.svn_name_map.specs.Runs.{joined, IsBelow, IsAbove}
use Rattle.svn_name_map.proofs.runs.run_before.Given as goal

abbrev pub invariant-halves : goal.invariant-halves
invariant-halves g l =
    (l.low < l.high) × (l.high ≤ length l.runs) × IsBelow l.name (joined (take l.low l.runs))
    × IsAbove l.name (joined (drop l.high l.runs))

abbrev pub decreases-halves : goal.decreases-halves
decreases-halves g l = l.high - l.low
