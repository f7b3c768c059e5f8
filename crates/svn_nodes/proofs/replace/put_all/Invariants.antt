use Rattle.svn_nodes.proofs.Replacing.{PutSoFar}
use Rattle.svn_nodes.proofs.replace.put_all.Given as goal

abbrev pub invariant-loop-path : goal.invariant-loop-path
invariant-loop-path l = PutSoFar l.fn.part.entries l.initial.nodes.entries l.nodes.entries l.path-iterator
