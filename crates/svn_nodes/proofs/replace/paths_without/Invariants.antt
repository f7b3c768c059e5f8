use Rattle.svn_nodes.proofs.Comparing.{Compared}
use Rattle.svn_nodes.proofs.replace.paths_without.Given as goal

abbrev pub invariant-loop-path : goal.invariant-loop-path
invariant-loop-path l = Compared l.at l.nodes.entries l.others.entries l.beside l.paths.items l.path-iterator
