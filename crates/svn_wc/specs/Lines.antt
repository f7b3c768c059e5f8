-- The printed lines of a working copy.
--     copy_text w         the lines of all nodes, in the order in which the copy has them
use Rattle.std.specs.Prelude.{ℕ, List}
use Rattle.std.specs.List.{flat_map}
use Rattle.svn_types.specs.Names.{Path}
use Rattle.svn_model.specs.declared.base_node.BaseNode.{BaseNode}
use Rattle.svn_nodes.specs.Lines.{node_lines}

abbrev pub copy_text : List (Path × BaseNode) → List ℕ
copy_text nodes = flat_map node_lines nodes
