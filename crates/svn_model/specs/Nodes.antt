-- A working copy: what is at each path.
--     get_in nodes      a list of nodes in path order, as the function from paths
--     IsWorkingCopy w      the shape that every working copy has
--     IsTrueOf h w      each present node is what the repository has there
use Rattle.std.specs.Prelude.{◌≡◌, ◌≢◌, ℕ, ◌+◌, ◌≤◌, Bool, true, false, not, List, [], ◌∷◌, length, Option, Some, None, option_map}
use Rattle.std.specs.Prelude.{filter_map}
use Rattle.std.specs.BTreeMap.{is_at}
use Rattle.std.specs.List.Sorted.{IsStrictlySortedBy}
use Rattle.std.specs.Map.{keys_of, lookup}
use Rattle.svn_types.specs.declared.kind.Kind.{Kind}
use Rattle.svn_types.specs.declared.kind.Kind.TheVariants.{File, Directory}
use Rattle.svn_types.specs.Names.{Path, path_cmp, IsName}
use Rattle.svn_types.specs.Paths.{child}
use Rattle.svn_repo.specs.History.{History, look}
use Rattle.svn_repo.specs.Readings.{kind_of, text_of, props_of, entries_of}
use Rattle.svn_types.specs.Limits.{path_limit}
use Rattle.svn_model.specs.declared.base_node.BaseNode.{BaseNode}
use Rattle.svn_model.specs.declared.base_node.BaseNode.TheVariants.{File as FileNode, Dir as DirNode, NotPresent}

abbrev pub WorkingCopy : Type 0
WorkingCopy = Path → Option BaseNode

-- the nodes of a list, each path once
abbrev pub get_in : List (Path × BaseNode) → WorkingCopy
get_in nodes p = lookup (is_at (path_cmp p)) nodes

-- the paths are in strict order
abbrev pub InPathOrder : List (Path × BaseNode) → Type 0
InPathOrder nodes = IsStrictlySortedBy path_cmp (keys_of nodes)

-- the nodes at these paths, as a list
abbrev pub listed : List Path → WorkingCopy → List (Path × BaseNode)
listed paths w = filter_map (λ p. option_map (λ n. (p, n)) (w p)) paths

-- ---- one node

abbrev pub is_present : Option BaseNode → Bool
is_present (Some (FileNode r q t ps)) = true
is_present (Some (DirNode r q c ps)) = true
is_present _ = false

abbrev pub is_not_present : Option BaseNode → Bool
is_not_present (Some NotPresent) = true
is_not_present _ = false

abbrev pub is_dir : Option BaseNode → Bool
is_dir (Some (DirNode r q c ps)) = true
is_dir _ = false

abbrev pub is_file : Option BaseNode → Bool
is_file (Some (FileNode r q t ps)) = true
is_file _ = false

abbrev pub is_incomplete : Option BaseNode → Bool
is_incomplete (Some (DirNode r q c ps)) = not c
is_incomplete _ = false

abbrev pub node_revision : Option BaseNode → ℕ
node_revision (Some (FileNode r q t ps)) = r
node_revision (Some (DirNode r q c ps)) = r
node_revision _ = 0

abbrev pub node_path : Option BaseNode → Path
node_path (Some (FileNode r q t ps)) = q
node_path (Some (DirNode r q c ps)) = q
node_path _ = []

abbrev pub node_text : Option BaseNode → List ℕ
node_text (Some (FileNode r q t ps)) = t
node_text _ = []

abbrev pub node_props : Option BaseNode → List (List ℕ × List ℕ)
node_props (Some (FileNode r q t ps)) = ps
node_props (Some (DirNode r q c ps)) = ps
node_props _ = []

-- what a node has where it is present, and a file its text

abbrev pub present_kind : BaseNode → Option Kind
present_kind (FileNode r q t ps) = Some File
present_kind (DirNode r q c ps) = Some Directory
present_kind NotPresent = None

abbrev pub present_revision : BaseNode → Option ℕ
present_revision (FileNode r q t ps) = Some r
present_revision (DirNode r q c ps) = Some r
present_revision NotPresent = None

abbrev pub present_path : BaseNode → Option Path
present_path (FileNode r q t ps) = Some q
present_path (DirNode r q c ps) = Some q
present_path NotPresent = None

abbrev pub present_props : BaseNode → Option (List (List ℕ × List ℕ))
present_props (FileNode r q t ps) = Some ps
present_props (DirNode r q c ps) = Some ps
present_props NotPresent = None

abbrev pub file_text : BaseNode → Option (List ℕ)
file_text (FileNode r q t ps) = Some t
file_text _ = None

-- the same node at another revision
abbrev pub at_revision : ℕ → BaseNode → BaseNode
at_revision rev (FileNode r q text props) = FileNode rev q text props
at_revision rev (DirNode r q complete props) = DirNode rev q complete props
at_revision rev NotPresent = NotPresent

-- ---- a node that is up to date

abbrev pub base_node_by : Kind → ℕ → Path → List ℕ → List (List ℕ × List ℕ) → BaseNode
base_node_by File r q text props = FileNode r q text props
base_node_by Directory r q text props = DirNode r q true props

-- a node as a copy has it that is up to date
abbrev pub base_node : History → ℕ → Path → ℕ → BaseNode
base_node h r q n = base_node_by (kind_of h n) r q (text_of h n) (props_of h n)

-- ---- the shape

pub record IsWorkingCopy (w : WorkingCopy) : Type 0 where
  pub root : is_dir (w []) ≡ true
  pub parents : (p : Path) (name : List ℕ) → w (child p name) ≢ None → is_dir (w p) ≡ true
  pub names : (p : Path) (name : List ℕ) → w (child p name) ≢ None → IsName name
  pub repos_paths : (p : Path) → is_present (w p) ≡ true → length (node_path (w p)) ≤ path_limit
  pub paths : (p : Path) → is_present (w p) ≡ true → length p ≤ path_limit + length (node_path (w p))

-- ---- truth

-- each of the names has an entry below the path, present or not
abbrev pub HasEntries : WorkingCopy → Path → List (List ℕ) → Type 0
HasEntries w p [] = Unit {0}
HasEntries w p (name ∷ names) = (w (child p name) ≢ None) × HasEntries w p names

pub record IsTrueFile (h : History) (n : ℕ) (text : List ℕ) (props : List (List ℕ × List ℕ)) : Type 0 where
  pub kind : kind_of h n ≡ File
  pub same_text : text ≡ text_of h n
  pub same_props : props ≡ props_of h n

pub record IsTrueDir (h : History) (n : ℕ) (w : WorkingCopy) (p : Path) (complete : Bool) (props : List (List ℕ × List ℕ)) : Type 0 where
  pub kind : kind_of h n ≡ Directory
  pub same_props : complete ≡ true → props ≡ props_of h n
  pub has_entries : complete ≡ true → HasEntries w p (keys_of (entries_of h n))

abbrev pub IsTrueNode : History → WorkingCopy → Path → Option BaseNode → Type 0
IsTrueNode h w p None = Unit {0}
IsTrueNode h w p (Some NotPresent) = Unit {0}
IsTrueNode h w p (Some (FileNode r q text props)) = (n : ℕ) × (look h r q ≡ Some n) × IsTrueFile h n text props
IsTrueNode h w p (Some (DirNode r q complete props)) = (n : ℕ) × (look h r q ≡ Some n) × IsTrueDir h n w p complete props

abbrev pub IsTrueAt : History → WorkingCopy → Path → Type 0
IsTrueAt h w p = IsTrueNode h w p (w p)

abbrev pub IsTrueOf : History → WorkingCopy → Type 0
IsTrueOf h w = (p : Path) → IsTrueAt h w p
