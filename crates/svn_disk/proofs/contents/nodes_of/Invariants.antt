use Rattle.std.proofs.Common.{◌≡◌, ◌++◌}
use Rattle.svn_disk.specs.Plans.{present_nodes}
use Rattle.svn_disk.proofs.contents.nodes_of.Given as goal

abbrev pub invariant-loop-path : goal.invariant-loop-path
invariant-loop-path l = l.nodes.items ++ present_nodes l.path-iterator ≡ present_nodes l.copy
