-- Copies without a switched path, and copies all of whose nodes are complete and of one revision.
--     IsUnswitched w      each present node's repository path is that of the root joined with its path
--     is_level rev node      the node is present and complete, and has that revision
--     IsLevel w      all nodes are so for one revision
use Rattle.std.specs.Prelude.{◌≡◌, ℕ, Bool, true, false, ◌&&◌, ◌++◌, [], nat_eq, Some}
use Rattle.svn_types.specs.Names.{Path}
use Rattle.svn_model.specs.declared.base_node.BaseNode.{BaseNode}
use Rattle.svn_model.specs.declared.base_node.BaseNode.TheVariants.{File as FileNode, Dir as DirNode, NotPresent}
use Rattle.svn_model.specs.Nodes.{WorkingCopy, is_present, node_path}

abbrev pub IsUnswitched : WorkingCopy → Type 0
IsUnswitched w = (p : Path) → is_present (w p) ≡ true → node_path (w p) ≡ node_path (w []) ++ p

abbrev pub is_level : ℕ → BaseNode → Bool
is_level rev (FileNode r q text props) = nat_eq r rev
is_level rev (DirNode r q complete props) = complete && nat_eq r rev
is_level rev NotPresent = false

abbrev pub IsLevel : WorkingCopy → Type 0
IsLevel w = (rev : ℕ) × ((p : Path) (n : BaseNode) → w p ≡ Some n → is_level rev n ≡ true)
