-- Lists of nodes that are looked through for faults.
--     IsSorted nodes      the nodes are in the order of their paths, and some paths may be the same
--     IsSearchable nodes      nor is a path there twice
use Rattle.std.specs.Prelude.{◌≡◌, false, List}
use Rattle.std.specs.List.Sorted.{IsSortedByKey}
use Rattle.svn_types.specs.Names.{Path, path_cmp}
use Rattle.svn_model.specs.declared.base_node.BaseNode.{BaseNode}
use Rattle.svn_model.specs.Refusals.{has_twice}

abbrev pub IsSorted : List (Path × BaseNode) → Type 0
IsSorted nodes = IsSortedByKey (λ (node : Path × BaseNode). node.0) path_cmp nodes

abbrev pub IsSearchable : List (Path × BaseNode) → Type 0
IsSearchable nodes = IsSorted nodes × (has_twice nodes ≡ false)
