-- What a checkout writes of a copy: the nodes of its database, and the work that is left once it is there.
--     present_nodes copy      the files and directories
--     text_of_node node      the stand-in of its text, if it is a file
--     work_of copy      a directory is made, a file gets its place; the copy's own directory is there
use Rattle.std.specs.Prelude.{◌≡◌, ℕ, List, [], ◌∷◌, if◌then◌else◌, Option, Some, None}
use Rattle.std.specs.List.{flat_map}
use Rattle.svn_types.specs.Names.{Path}
use Rattle.svn_types.specs.Paths.{is_root}
use Rattle.svn_model.specs.declared.base_node.BaseNode.{BaseNode}
use Rattle.svn_model.specs.declared.base_node.BaseNode.TheVariants.{File as FileNode, Dir as DirNode, NotPresent}
use Rattle.svn_wcrows.specs.declared.work.Work.{Work}
use Rattle.svn_wcrows.specs.declared.work.Work.TheVariants.{MakeDirectory, InstallFile}
use Rattle.svn_wcrows.specs.Work.{place_of}

abbrev pub present_at : Path → BaseNode → List (Path × BaseNode)
present_at p (FileNode r q t ps) = (p, FileNode r q t ps) ∷ []
present_at p (DirNode r q c ps) = (p, DirNode r q c ps) ∷ []
present_at p NotPresent = []

abbrev pub present_of : Path × BaseNode → List (Path × BaseNode)
present_of entry = present_at entry.0 entry.1

abbrev pub present_nodes : List (Path × BaseNode) → List (Path × BaseNode)
present_nodes = flat_map present_of

abbrev pub node_work : Path → BaseNode → List Work
node_work p (FileNode r q t ps) = InstallFile p ∷ []
node_work p (DirNode r q c ps) = MakeDirectory p ∷ []
node_work p NotPresent = []

abbrev pub entry_work : Path × BaseNode → List Work
entry_work entry = if is_root entry.0 then [] else node_work entry.0 entry.1

abbrev pub work_of : List (Path × BaseNode) → List Work
work_of = flat_map entry_work

-- the path that work is about
abbrev pub path_of : Work → Path
path_of work = place_of work

-- the stand-in of a file's text
abbrev pub text_of_node : BaseNode → Option (List ℕ)
text_of_node (FileNode r q t ps) = Some t
text_of_node (DirNode r q c ps) = None
text_of_node NotPresent = None
