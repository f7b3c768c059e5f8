-- What becomes of the paths of a copy that changes, and the work that it is.
--     comes change, goes change      something is made at the path, something is removed there
--     removals_of old changes, makings_of new changes      the work: the files that go, and the directories from below; the directories that come, from above, and
--         the files
--     AreChanged old new changes left      each path has what the changes say: the node of the new copy, or no file and no link any more
--     HasEachChange old new changes      each path at which the copies differ is in the list, which is in path order, and what becomes of it is said there
--     ArePlanned old new entries      the same of the changes of a plan, each with its path
--     IsMended h old changes new      a copy was put right, by these changes, and these are all
--     IsToMend h old changes      these are all changes that would put it right
use Rattle.std.specs.Prelude.{◌≡◌, ◌≢◌, Bool, true, false, ◌&&◌, ◌||◌, not, List, [], ◌∷◌, ◌++◌, map, reverse, bytes_eq, if◌then◌else◌, Option, Some, None, ⊤}
use Rattle.std.specs.BTreeMap.{is_at}
use Rattle.std.specs.List.{Contains, flat_map, list_any}
use Rattle.std.specs.List.Sorted.{IsStrictlySortedBy}
use Rattle.std.specs.Map.{lookup}
use Rattle.svn_types.specs.Names.{Path, path_cmp}
use Rattle.svn_types.specs.Paths.{path_eq}
use Rattle.svn_model.specs.declared.base_node.BaseNode.{BaseNode}
use Rattle.svn_model.specs.declared.base_node.BaseNode.TheVariants.{File as FileNode, Dir as DirNode}
use Rattle.svn_model.specs.Nodes.{get_in, is_present, is_dir, is_file, node_text, node_props, IsTrueOf}
use Rattle.svn_repo.specs.History.{History}
use Rattle.svn_wcrows.specs.declared.work.Work.{Work}
use Rattle.svn_wcrows.specs.declared.work.Work.TheVariants.{MakeDirectory, InstallFile, RemoveFile, RemoveDirectory}
use Rattle.svn_folder.specs.Entries.{has_leaf}
use Rattle.svn_folder.specs.States.{Seen}
use Rattle.svn_folder.specs.Pasts.{Past}
use Rattle.svn_disk.specs.declared.plan.Change.{Change}
use Rattle.svn_disk.specs.declared.plan.Change.TheVariants.{Added, Removed, Replaced, Rewritten, Recorded, Bumped, Restored}
use Rattle.svn_disk.specs.declared.plan.PathChange.{PathChange}
use Rattle.svn_disk.specs.Goes.{IsAlways}
use Rattle.svn_disk.specs.Crashes.{HasDatabase}
use Rattle.svn_disk.specs.Ends.{Turns, IsAtPlace}

abbrev pub comes : Change → Bool
comes Added = true
comes Removed = false
comes Replaced = true
comes Rewritten = true
comes Recorded = false
comes Bumped = false
comes Restored = true

abbrev pub goes : Change → Bool
goes Added = false
goes Removed = true
goes Replaced = true
goes Rewritten = false
goes Recorded = false
goes Bumped = false
goes Restored = false

-- something changes on disk
abbrev pub is_on_disk : Change → Bool
is_on_disk change = comes change || goes change

abbrev pub is_some_on_disk : Option Change → Bool
is_some_on_disk None = false
is_some_on_disk (Some change) = is_on_disk change

-- of what is planned at a path
abbrev pub is_on_disk_at : List (Path × Change) → Path → Bool
is_on_disk_at entries p = is_some_on_disk (lookup (is_at (path_cmp p)) entries)

-- ---- what becomes of a path

-- the node of the new copy has to be made: the old copy has no node of its kind there, or a file with another text
abbrev pub has_to_come : Option BaseNode → Option BaseNode → Bool
has_to_come old (Some (FileNode r q t ps)) = not (is_file old && bytes_eq (node_text old) t)
has_to_come old (Some (DirNode r q c ps)) = not (is_dir old)
has_to_come old _ = false

-- the node of the old copy has to go: the new copy has no node of its kind there
abbrev pub has_to_go : Option BaseNode → Option BaseNode → Bool
has_to_go (Some (FileNode r q t ps)) new = not (is_file new)
has_to_go (Some (DirNode r q c ps)) new = not (is_dir new)
has_to_go _ new = false

-- both have the same kind, the same text and the same properties, or neither is present
pub record IsSameNode (old new : Option BaseNode) : Type 0 where
  pub directories : is_dir old ≡ is_dir new
  pub files : is_file old ≡ is_file new
  pub texts : node_text old ≡ node_text new
  pub props : node_props old ≡ node_props new

-- what becomes of these nodes: what has to come comes, and is a node of the new copy; just what has to go goes; and where more differs than where a node is
-- from the change says so
pub record IsChangeOf (old new : Option BaseNode) (change : Change) : Type 0 where
  pub made : has_to_come old new ≡ true → comes change ≡ true
  pub there : comes change ≡ true → is_present new ≡ true
  pub removed : goes change ≡ has_to_go old new
  pub bumped : change ≡ Bumped → IsSameNode old new

-- of a path, in a plan and in a list
pub record HasPlan (old new : List (Path × BaseNode)) (entries : List (Path × Change)) (p : Path) : Type 0 where
  pub change : Change
  pub found : lookup (is_at (path_cmp p)) entries ≡ Some change
  pub is : IsChangeOf (get_in old p) (get_in new p) change

abbrev pub IsPlanned : List (Path × BaseNode) → List (Path × BaseNode) → List (Path × Change) → Path → Type 0
IsPlanned old new entries p = get_in old p ≢ get_in new p → HasPlan old new entries p

abbrev pub ArePlanned : List (Path × BaseNode) → List (Path × BaseNode) → List (Path × Change) → Type 0
ArePlanned old new entries = (p : Path) → IsPlanned old new entries p

-- those that were planned still are
abbrev pub StayPlanned : List (Path × BaseNode) → List (Path × BaseNode) → List (Path × Change) → List (Path × Change) → Type 0
StayPlanned old new entries more = (p : Path) → IsPlanned old new entries p → IsPlanned old new more p

pub record HasChange (old new : List (Path × BaseNode)) (changes : List PathChange) (p : Path) : Type 0 where
  pub change : PathChange
  pub listed : Contains changes change
  pub at : change.path ≡ p
  pub is : IsChangeOf (get_in old p) (get_in new p) change.change

-- each path is there once
pub record HasEachChange (old new : List (Path × BaseNode)) (changes : List PathChange) : Type 0 where
  pub order : IsStrictlySortedBy path_cmp (map (λ (change : PathChange). change.path) changes)
  pub each : (p : Path) → get_in old p ≢ get_in new p → HasChange old new changes p

-- ---- the work

abbrev pub making_directory : List (Path × BaseNode) → Path × Change → List Work
making_directory new entry = if comes entry.1 && is_dir (get_in new entry.0) then MakeDirectory entry.0 ∷ [] else []

abbrev pub making_file : List (Path × BaseNode) → Path × Change → List Work
making_file new entry = if comes entry.1 && not (is_dir (get_in new entry.0)) then InstallFile entry.0 ∷ [] else []

abbrev pub removing_directory : List (Path × BaseNode) → Path × Change → List Work
removing_directory old entry = if goes entry.1 && is_dir (get_in old entry.0) then RemoveDirectory entry.0 ∷ [] else []

abbrev pub removing_file : List (Path × BaseNode) → Path × Change → List Work
removing_file old entry = if goes entry.1 && not (is_dir (get_in old entry.0)) then RemoveFile entry.0 ∷ [] else []

abbrev pub makings_of : List (Path × BaseNode) → List (Path × Change) → List Work
makings_of new changes = flat_map (making_directory new) changes ++ flat_map (making_file new) changes

abbrev pub removals_of : List (Path × BaseNode) → List (Path × Change) → List Work
removals_of old changes = flat_map (removing_file old) changes ++ reverse (flat_map (removing_directory old) changes)

-- ---- what is shown once it is done

-- something comes to a path
abbrev pub comes_to : Path → PathChange → Bool
comes_to p change = comes change.change && path_eq change.path p

-- of one of some changes
pub record IsChanged (old new : List (Path × BaseNode)) (all : List PathChange) (change : PathChange) (left : Seen) : Type 0 where
  pub there : comes change.change ≡ true → (node : BaseNode) → get_in new change.path ≡ Some node → IsAtPlace node (left change.path)
  pub gone : goes change.change ≡ true → is_dir (get_in old change.path) ≡ false → list_any (comes_to change.path) all ≡ false → has_leaf (left change.path) ≡ false

abbrev pub EachChanged : List (Path × BaseNode) → List (Path × BaseNode) → List PathChange → List PathChange → Seen → Type 0
EachChanged old new all [] left = ⊤
EachChanged old new all (change ∷ changes) left = IsChanged old new all change left × EachChanged old new all changes left

abbrev pub AreChanged : List (Path × BaseNode) → List (Path × BaseNode) → List PathChange → Seen → Type 0
AreChanged old new changes left = EachChanged old new changes changes left

pub record IsMended (h : History) (old : Past) (changes : List PathChange) (new : Past) : Type 0 where
  pub copy : List (Path × BaseNode)
  pub other : List (Path × BaseNode)
  pub was : IsAlways (HasDatabase copy) old
  pub is_true : IsTrueOf h (get_in other)
  pub each : HasEachChange copy other changes
  pub ends : Turns (λ before left. AreChanged copy other changes left) old new

pub record IsToMend (h : History) (old : Past) (changes : List PathChange) : Type 0 where
  pub copy : List (Path × BaseNode)
  pub other : List (Path × BaseNode)
  pub was : IsAlways (HasDatabase copy) old
  pub is_true : IsTrueOf h (get_in other)
  pub each : HasEachChange copy other changes
