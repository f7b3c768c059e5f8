use Rattle.std.proofs.Common.{◌≡◌, length}
use Rattle.std.specs.List.{list_any}
use Rattle.svn_model.specs.Nodes.{get_in}
use Rattle.svn_model.specs.Refusals.{is_orphan}
use Rattle.svn_wc.proofs.listed.has_orphan.Given as goal

abbrev pub decreases-nodes : goal.decreases-nodes
decreases-nodes l = length l.rest

abbrev pub invariant-nodes : goal.invariant-nodes
invariant-nodes l = list_any (is_orphan (get_in l.all)) l.rest ≡ list_any (is_orphan (get_in l.all)) l.nodes
