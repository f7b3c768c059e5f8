use Rattle.std.proofs.Common.{◌≡◌, length}
use Rattle.std.specs.List.{list_any}
use Rattle.svn_model.specs.Refusals.{is_node_too_deep}
use Rattle.svn_wc.proofs.listed.has_too_deep.Given as goal

abbrev pub decreases-nodes : goal.decreases-nodes
decreases-nodes l = length l.rest

abbrev pub invariant-nodes : goal.invariant-nodes
invariant-nodes l = list_any is_node_too_deep l.rest ≡ list_any is_node_too_deep l.nodes
