use Rattle.std.proofs.Common.{take}
use Rattle.svn_model.specs.Nodes.{get_in}
use Rattle.svn_audit.specs.NotedLines.{IsNoted, KnowsEdits}
use Rattle.svn_audit.proofs.lines.update_lines.Given as goal

abbrev pub invariant-loop-call : goal.invariant-loop-call
invariant-loop-call l = IsNoted (get_in l.copy) (take l.call-index l.calls) l.noted × KnowsEdits (take l.call-index l.calls) l.noted.edited
