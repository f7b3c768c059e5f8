use Rattle.std.proofs.Common.{length}
use Rattle.svn_audit.proofs.Audits.{Audited}
use Rattle.svn_audit.proofs.untrue.untrue_paths.Given as goal

abbrev pub invariant-nodes : goal.invariant-nodes
invariant-nodes l = Audited l.repo l.copy l.left l.found.items

abbrev pub decreases-nodes : goal.decreases-nodes
decreases-nodes l = length l.left
