use Rattle.std.proofs.Common.{length}
use Rattle.svn_audit.proofs.SparseTruths.{Audited}
use Rattle.svn_audit.proofs.sparse.untrue_paths_but.Given as goal

abbrev pub invariant-nodes : goal.invariant-nodes
invariant-nodes g l = Audited (g.L.MayLack.lackable l.lackable) l.repo l.copy l.left l.found.items

abbrev pub decreases-nodes : goal.decreases-nodes
decreases-nodes g l = length l.left
