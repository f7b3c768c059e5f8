-- What a stored node is to a reader, and what holds of every repository.
use Rattle.std.specs.Prelude.{◌≡◌, ℕ, ◌<◌, ◌≤◌, List, [], length, slice_get, Some, option_map, map, nat_le}
use Rattle.std.specs.List.{All}
use Rattle.std.specs.Map.{keys_of, values_of}
use Rattle.svn_types.specs.declared.kind.Kind.{Kind}
use Rattle.svn_types.specs.declared.kind.Kind.TheVariants.{File, Directory}
use Rattle.svn_repo.specs.declared.store.Node.{Node}
use Rattle.svn_repo.specs.declared.store.Content.{Content}
use Rattle.svn_repo.specs.declared.store.Content.TheVariants.{Text, Listing}
use Rattle.svn_types.specs.Names.{Path, IsName}
use Rattle.svn_types.specs.Pairs.{InNameOrder}
use Rattle.svn_repo.specs.History.{NodeRow, History, Nodes, node_at, child_in, IsDirectoryIn, reaches}
use Rattle.svn_types.specs.Limits.{path_limit, size_limit}
use Rattle.svn_repo.specs.Trees.{Place, Tree, tree_at}

abbrev pub kind_of : Content → Kind
kind_of (Text text) = File
kind_of (Listing entries) = Directory

abbrev pub text_of : Content → List ℕ
text_of (Text text) = text
text_of (Listing entries) = []

abbrev pub entries_of : Content → List (List ℕ × ℕ)
entries_of (Text text) = []
entries_of (Listing entries) = entries

abbrev pub row_of : Node → NodeRow
row_of n = record {
  line = n.line;
  kind = kind_of n.content;
  text = text_of n.content;
  props = n.props;
  entries = entries_of n.content;
}

abbrev pub rows : List Node → Nodes
rows nodes n = option_map row_of (slice_get nodes n)

-- the history of what is stored
abbrev pub history_of : List ℕ → List Node → ℕ → History
history_of roots nodes lines = record { roots = roots; nodes = map row_of nodes; lines = lines }

-- ---- what holds of every repository

-- a file has no entries and a directory no text; the entries are in order, under lawful names
pub record IsLawfulRow (row : NodeRow) : Type 0 where
  pub leaf : row.kind ≡ File → row.entries ≡ []
  pub no_text : row.kind ≡ Directory → row.text ≡ []
  pub in_order : InNameOrder row.entries
  pub named : All IsName (keys_of row.entries)

-- what is at the path is within the limits, and is of its line's kind; the root is of line 0
pub record IsLawfulPlace (kinds : ℕ → Kind) (lines : ℕ) (q : Path) (x : Place) : Type 0 where
  pub short : length q ≤ path_limit
  pub props_in_order : InNameOrder x.props
  pub props_small : All (λ v. length v ≤ size_limit) (values_of x.props)
  pub text_small : length x.text ≤ size_limit
  pub line : x.line < lines
  pub kind : x.kind ≡ kinds x.line
  pub root_line : q ≡ [] → x.line ≡ 0

-- all that is in the tree is lawful
abbrev pub IsLawfulTree : (ℕ → Kind) → ℕ → Tree → Type 0
IsLawfulTree kinds lines t = (q : Path) (x : Place) → t q ≡ Some x → IsLawfulPlace kinds lines q x

pub record IsRepository (h : History) : Type 0 where
  pub some_revision : 1 ≤ length h.roots
  pub roots : (r n : ℕ) → slice_get h.roots r ≡ Some n → IsDirectoryIn h.nodes n
  pub closed : (n m : ℕ) (name : List ℕ) → child_in (node_at h n) name ≡ Some m → m < length h.nodes
  pub lines : h.lines ≤ length h.nodes
  pub rows : (n : ℕ) (row : NodeRow) → node_at h n ≡ Some row → IsLawfulRow row
  -- the kind of each line
  pub kinds : ℕ → Kind
  pub trees : (r : ℕ) → IsLawfulTree kinds h.lines (tree_at h r)

-- ---- how deep the tree below a node is, where it is at most as deep as a path is long

pub record IsHeight (nodes : Nodes) (n k : ℕ) : Type 0 where
  pub bounded : k ≤ path_limit
  pub exact : (j : ℕ) → j ≤ path_limit → reaches nodes j n ≡ nat_le j k

-- each of the nodes has its height
pub record AreHeights (nodes : List Node) (heights : List ℕ) : Type 0 where
  pub size : length heights ≡ length nodes
  pub each : (n k : ℕ) → slice_get heights n ≡ Some k → IsHeight (rows nodes) n k

-- what is stored of a repository
pub record IsStored (roots : List ℕ) (nodes : List Node) (lines : ℕ) (heights : List ℕ) : Type 0 where
  pub repository : IsRepository (history_of roots nodes lines)
  pub known : AreHeights nodes heights
