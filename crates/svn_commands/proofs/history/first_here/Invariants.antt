use Rattle.std.proofs.Common.{◌≡◌, ◌≤◌}
use Rattle.svn_commands.specs.Segments.{first_of_line, first_here}
use Rattle.svn_commands.proofs.history.first_here.Given as goal

abbrev pub decreases-loop-first : goal.decreases-loop-first
decreases-loop-first l = l.first

-- the first revision of what is before is that of all
abbrev pub invariant-loop-first : goal.invariant-loop-first
invariant-loop-first l = record {
  same : first_of_line l.served l.line l.first l.path ≡ first_here l.served l.fn.rev l.path;
  before : l.first ≤ l.fn.rev;
}
