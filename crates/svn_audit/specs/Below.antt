-- What of a list of nodes is at a path and below.
--     nodes_below above nodes      the nodes at a path and below, each at its path from there
--     IsFaultOrMemory fault e      the fault, or Memory, whether there is a fault or not
use Rattle.std.specs.Prelude.{◌≡◌, ◌⊎◌, List, length, drop, filter_map, Option, Some, None, if◌then◌else◌}
use Rattle.svn_types.specs.Names.{Path}
use Rattle.svn_types.specs.Paths.{is_within}
use Rattle.svn_model.specs.declared.base_node.BaseNode.{BaseNode}
use Rattle.svn_model.specs.declared.wc_fault.WcFault.{WcFault}
use Rattle.svn_model.specs.declared.wc_fault.WcFault.TheVariants.{Memory}

abbrev pub node_below : Path → Path × BaseNode → Option (Path × BaseNode)
node_below above e = if is_within above e.0 then Some (drop (length above) e.0, e.1) else None

abbrev pub nodes_below : Path → List (Path × BaseNode) → List (Path × BaseNode)
nodes_below above nodes = filter_map (node_below above) nodes

abbrev pub IsFaultOrMemory : Option WcFault → WcFault → Type 0
IsFaultOrMemory fault e = (e ≡ Memory) ⊎ (fault ≡ Some e)
