-- Nodes and a part that is put over them, gone through together in order.
--     next_at left p      the first node of the part that is left, if it is at the path
--     behind_at left p      what is left of the part after the path
use Rattle.std.specs.Prelude.{List, [], ◌∷◌, Option, Some, None, if◌then◌else◌}
use Rattle.svn_types.specs.Names.{Path}
use Rattle.svn_types.specs.Paths.{path_eq}
use Rattle.svn_model.specs.declared.base_node.BaseNode.{BaseNode}

abbrev pub next_at : List (Path × BaseNode) → Path → Option BaseNode
next_at [] p = None
next_at (e ∷ es) p = if path_eq e.0 p then Some e.1 else None

abbrev pub behind_at : List (Path × BaseNode) → Path → List (Path × BaseNode)
behind_at [] p = []
behind_at (e ∷ es) p = if path_eq e.0 p then es else e ∷ es
