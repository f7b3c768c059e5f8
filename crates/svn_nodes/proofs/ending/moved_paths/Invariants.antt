use Rattle.std.proofs.Common.{◌≡◌, ◌++◌}
use Rattle.svn_nodes.specs.NodeTests.{moved_paths}
use Rattle.svn_nodes.proofs.ending.moved_paths.Given as goal

abbrev pub invariant-loop-path : goal.invariant-loop-path
invariant-loop-path l = l.moved.items ++ moved_paths l.root l.path-iterator ≡ moved_paths l.root l.nodes.entries
