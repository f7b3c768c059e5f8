use Rattle.std.proofs.Common.{◌≡◌, length}
use Rattle.svn_types.specs.Paths.{parent}
use Rattle.svn_model.specs.Nodes.{get_in, InPathOrder}
use Rattle.svn_wc.proofs.working_copy.WorkingCopy.find_above.Given as goal

-- what is above the path is among the nodes that are left
abbrev pub invariant-nodes : goal.invariant-nodes
invariant-nodes l = InPathOrder l.left × (get_in l.left (parent l.path) ≡ get_in l.self (parent l.path))

abbrev pub decreases-nodes : goal.decreases-nodes
decreases-nodes l = length l.left
