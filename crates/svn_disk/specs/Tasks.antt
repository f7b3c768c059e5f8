-- The work of a change in its two parts.
--     removals_in task, makings_in task      what goes, and then what comes
--     is_removal work      something goes
--     comes_at p work      something comes to that path
--     work_nodes copy work      the nodes of the copy that are files which come, with the paths of all items
use Rattle.std.specs.Prelude.{◌≡◌, ℕ, Bool, true, false, min, List, [], ◌∷◌, length, take, drop, ⊤}
use Rattle.std.specs.List.{list_all, list_any}
use Rattle.std.specs.Option.{unwrap_or}
use Rattle.svn_types.specs.Names.{Path}
use Rattle.svn_types.specs.Paths.{path_eq}
use Rattle.svn_model.specs.declared.base_node.BaseNode.{BaseNode}
use Rattle.svn_model.specs.declared.base_node.BaseNode.TheVariants.{NotPresent}
use Rattle.svn_model.specs.Nodes.{get_in}
use Rattle.svn_wcrows.specs.declared.work.Work.{Work}
use Rattle.svn_wcrows.specs.declared.work.Work.TheVariants.{MakeDirectory, InstallFile, RemoveFile, RemoveDirectory}
use Rattle.svn_disk.specs.Plans.{path_of}
use Rattle.svn_disk.specs.declared.task.Task.{Task}

abbrev pub removals_in : Task → List Work
removals_in task = take (min task.removals (length task.work.items)) task.work.items

abbrev pub makings_in : Task → List Work
makings_in task = drop (min task.removals (length task.work.items)) task.work.items

abbrev pub is_removal : Work → Bool
is_removal (MakeDirectory p) = false
is_removal (InstallFile p) = false
is_removal (RemoveFile p) = true
is_removal (RemoveDirectory p) = true

abbrev pub comes_at : Path → Work → Bool
comes_at p (MakeDirectory q) = path_eq q p
comes_at p (InstallFile q) = path_eq q p
comes_at p (RemoveFile q) = false
comes_at p (RemoveDirectory q) = false

-- all of the one part goes, and none of the other
pub record IsParted (task : Task) : Type 0 where
  pub removals : list_all is_removal (removals_in task) ≡ true
  pub makings : list_any is_removal (makings_in task) ≡ false

-- ---- the nodes of a copy that work is about

abbrev pub node_at : List (Path × BaseNode) → Path → BaseNode
node_at copy p = unwrap_or (get_in copy p) NotPresent

abbrev pub work_node : List (Path × BaseNode) → Work → BaseNode
work_node copy (MakeDirectory p) = NotPresent
work_node copy (InstallFile p) = node_at copy p
work_node copy (RemoveFile p) = NotPresent
work_node copy (RemoveDirectory p) = NotPresent

abbrev pub work_nodes : List (Path × BaseNode) → List Work → List (Path × BaseNode)
work_nodes copy [] = []
work_nodes copy (item ∷ work) = (path_of item, work_node copy item) ∷ work_nodes copy work
