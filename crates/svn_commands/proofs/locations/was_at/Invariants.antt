use Rattle.std.proofs.Common.{◌≡◌, drop}
use Rattle.svn_commands.specs.Locations.{was_at}
use Rattle.svn_commands.proofs.locations.was_at.Given as goal

-- the segments that are left decide
abbrev pub invariant-loop-segment : goal.invariant-loop-segment
invariant-loop-segment l = was_at (drop l.segment-index l.segments) l.rev l.path ≡ was_at l.segments l.rev l.path
