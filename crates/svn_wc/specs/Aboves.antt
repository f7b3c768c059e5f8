-- A node that others are below, with a mark whether it is a directory whose repository path is its own path.
--     has_own_path p node      at this path the node is such a directory
--     mark unswitched p node      the mark of a node at this path, where it may be known that no path is switched
--     KnowsOwnPath p above      the mark is right at this path, if it is set
--     IsBelow p above      the path is the root, and nothing is above it, or a directory is
use Rattle.std.specs.Prelude.{◌≡◌, Bool, true, false, Option, Some, None}
use Rattle.svn_types.specs.Names.{Path}
use Rattle.svn_types.specs.Paths.{path_eq, is_root, parent}
use Rattle.svn_model.specs.declared.base_node.BaseNode.{BaseNode}
use Rattle.svn_model.specs.declared.base_node.BaseNode.TheVariants.{Dir as DirNode}
use Rattle.svn_model.specs.Nodes.{is_dir, node_path}

abbrev pub has_own_path : Path → BaseNode → Bool
has_own_path p (DirNode r q complete props) = path_eq q p
has_own_path p _ = false

abbrev pub mark : Bool → Path → BaseNode → Bool
mark true p node = false
mark false p node = has_own_path p node

abbrev pub KnowsOwnPath : Path → BaseNode × Bool → Type 0
KnowsOwnPath p above = above.1 ≡ true → node_path (Some above.0) ≡ p

abbrev pub IsBelow : Path → Option (BaseNode × Bool) → Type 0
IsBelow p None = is_root p ≡ true
IsBelow p (Some above) = (is_root p ≡ false) × (is_dir (Some above.0) ≡ true) × KnowsOwnPath (parent p) above
