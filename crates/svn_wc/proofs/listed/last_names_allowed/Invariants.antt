use Rattle.std.proofs.Common.{length}
use Rattle.law_copy.specs.CopyLaws.{AllEndNamed}
use Rattle.svn_wc.proofs.listed.last_names_allowed.Given as goal

abbrev pub decreases-nodes : goal.decreases-nodes
decreases-nodes l = length l.rest

abbrev pub invariant-nodes : goal.invariant-nodes
invariant-nodes l = AllEndNamed l.rest → AllEndNamed l.nodes
