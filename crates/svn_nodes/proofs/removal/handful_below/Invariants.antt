use Rattle.svn_nodes.proofs.Ranges.{nodes_behind}
use Rattle.svn_nodes.proofs.Removals.{Noted}
use Rattle.svn_nodes.proofs.removal.handful_below.Given as goal

abbrev pub invariant-loop-other : goal.invariant-loop-other
invariant-loop-other l = Noted l.path (nodes_behind l.path l.nodes.entries) l.paths.items l.other-iterator
