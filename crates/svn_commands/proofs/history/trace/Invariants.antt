use Rattle.std.proofs.Common.{◌++◌, List}
use Rattle.svn_commands.specs.declared.history.Segment.{Segment}
use Rattle.svn_commands.specs.Segments.{AreSegments}
use Rattle.svn_commands.proofs.history.trace.Given as goal

abbrev pub decreases-copies : goal.decreases-copies
decreases-copies l = l.last

-- with the segments from here on these are all
abbrev pub invariant-copies : goal.invariant-copies
invariant-copies l = (rest : List Segment) → AreSegments l.served l.last l.path rest → AreSegments l.served l.fn.rev l.fn.path (l.segments.items ++ rest)
