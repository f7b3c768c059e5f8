-- Why a copy can't be made or changed without a drive: the first fault in the order in which they are looked for, apart from Memory.
--     checkout_fault h q r      the tree at q in revision r, as a copy
--     place_fault h w p r      the tree that revision r has where the parent's repository path leads, at p
--     switch_fault h w p q r      the tree at q in revision r, at p
--     forget_fault w p      p as not present
--     nodes_fault nodes      the nodes, as a copy
use Rattle.std.specs.Prelude.{ℕ, ◌+◌, Bool, true, false, ◌&&◌, ◌||◌, not, List, [], ◌∷◌, length, nat_lt, nat_le, Option, Some, None}
use Rattle.std.specs.Prelude.{is_some, if◌then◌else◌}
use Rattle.std.specs.List.{list_any}
use Rattle.svn_types.specs.Names.{Path}
use Rattle.svn_types.specs.Paths.{path_eq, parent, is_root}
use Rattle.svn_types.specs.declared.kind.Kind.{Kind}
use Rattle.svn_types.specs.declared.kind.Kind.TheVariants.{File, Directory}
use Rattle.svn_repo.specs.History.{History, look}
use Rattle.svn_repo.specs.Readings.{kind_of}
use Rattle.svn_types.specs.Limits.{path_limit}
use Rattle.svn_model.specs.declared.base_node.BaseNode.{BaseNode}
use Rattle.svn_model.specs.declared.wc_fault.WcFault.{WcFault}
use Rattle.svn_model.specs.declared.wc_fault.WcFault.TheVariants.{NoSuchRevision, Missing, NoParent, IsRoot, TooDeep, Twice, BadRoot}
use Rattle.svn_model.specs.Nodes.{WorkingCopy, get_in, is_present, is_dir, node_path}
use Rattle.svn_model.specs.Effects.{joined_path}

abbrev pub is_missing_revision : History → ℕ → Bool
is_missing_revision h r = nat_le (length h.roots) r

abbrev pub is_nowhere : History → Path → ℕ → Bool
is_nowhere h q r = not (is_some (look h r q))

-- a path's node may have this repository path: that has at most 64 names, and the path at most 64 more
abbrev pub is_too_deep : Path → Path → Bool
is_too_deep p q = nat_lt path_limit (length q) || nat_lt (path_limit + length q) (length p)

abbrev pub is_file_kind : Kind → Bool
is_file_kind File = true
is_file_kind Directory = false

abbrev pub is_repos_file : History → Option ℕ → Bool
is_repos_file h (Some n) = is_file_kind (kind_of h n)
is_repos_file h None = false

abbrev pub checkout_fault : History → Path → ℕ → Option WcFault
checkout_fault h q r =
    if is_missing_revision h r then Some NoSuchRevision
    else if is_nowhere h q r then Some Missing
    else if is_repos_file h (look h r q) then Some BadRoot
    else None

abbrev pub place_fault : History → WorkingCopy → Path → ℕ → Option WcFault
place_fault h w p r =
    if is_root p then Some IsRoot
    else if is_missing_revision h r then Some NoSuchRevision
    else if not (is_dir (w (parent p))) then Some NoParent
    else if is_nowhere h (joined_path w p) r then Some Missing
    else None

abbrev pub switch_fault : History → WorkingCopy → Path → Path → ℕ → Option WcFault
switch_fault h w p q r =
    if is_root p then Some IsRoot
    else if is_missing_revision h r then Some NoSuchRevision
    else if not (is_dir (w (parent p))) then Some NoParent
    else if is_too_deep p q then Some TooDeep
    else if is_nowhere h q r then Some Missing
    else None

abbrev pub forget_fault : WorkingCopy → Path → Option WcFault
forget_fault w p =
    if is_root p then Some IsRoot
    else if not (is_present (w p)) then Some Missing
    else None

-- ---- a list of nodes

abbrev pub is_of : Path → Path × BaseNode → Bool
is_of p node = path_eq p node.0

-- a path is twice in the list
abbrev pub has_twice : List (Path × BaseNode) → Bool
has_twice [] = false
has_twice (node ∷ nodes) = list_any (is_of node.0) nodes || has_twice nodes

-- the parent of the path isn't a directory
abbrev pub is_orphan : WorkingCopy → Path × BaseNode → Bool
is_orphan w node = not (is_root node.0) && not (is_dir (w (parent node.0)))

abbrev pub is_node_too_deep : Path × BaseNode → Bool
is_node_too_deep node = is_present (Some node.1) && is_too_deep node.0 (node_path (Some node.1))

-- each test is on the whole list, in whatever order that is
abbrev pub nodes_fault : List (Path × BaseNode) → Option WcFault
nodes_fault nodes =
    if has_twice nodes then Some Twice
    else if not (is_dir (get_in nodes [])) then Some BadRoot
    else if list_any (is_orphan (get_in nodes)) nodes then Some NoParent
    else if list_any is_node_too_deep nodes then Some TooDeep
    else None
