use Rattle.std.proofs.Common.{◌≡◌, length}
use Rattle.svn_model.specs.Refusals.{has_twice}
use Rattle.svn_wc.proofs.SortedNodes.{IsRising}
use Rattle.svn_wc.proofs.listed.has_twice.Given as goal

abbrev pub decreases-nodes : goal.decreases-nodes
decreases-nodes l = length l.rest

abbrev pub invariant-nodes : goal.invariant-nodes
invariant-nodes l = record { up : IsRising l.rest; same : has_twice l.rest ≡ has_twice l.nodes }
