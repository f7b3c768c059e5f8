-- A repository as its readers see it: the root node of each revision, and what each node is.
-- A node number means one node revision, so equal numbers have equal lines, contents and subtrees.
--     look h r p      the node at path p in revision r
--     walk nodes n p      the node at path p below node n
--     reaches nodes k n      whether a path of k names leads down from node n
use Rattle.std.specs.Prelude.{◌≡◌, ℕ, zero, suc, Bool, true, List, [], ◌∷◌, slice_get, Option, Some, None, option_and_then}
use Rattle.std.specs.List.{list_any}
use Rattle.svn_types.specs.declared.kind.Kind.{Kind}
use Rattle.svn_types.specs.declared.kind.Kind.TheVariants.{File, Directory}
use Rattle.svn_types.specs.Names.{Path}
use Rattle.svn_types.specs.Pairs.{value_of}

-- what a node is; a directory has no text, and a file no entries
pub record NodeRow : Type 0 where
  pub line : ℕ
  pub kind : Kind
  pub text : List ℕ
  pub props : List (List ℕ × List ℕ)
  pub entries : List (List ℕ × ℕ)

-- the root of each revision, the nodes by their numbers, and the next line number
pub record History : Type 0 where
  pub roots : List ℕ
  pub nodes : List NodeRow
  pub lines : ℕ

abbrev pub Nodes : Type 0
Nodes = ℕ → Option NodeRow

abbrev pub node_at : History → Nodes
node_at h n = slice_get h.nodes n

abbrev pub entries_at : Option NodeRow → List (List ℕ × ℕ)
entries_at None = []
entries_at (Some row) = row.entries

abbrev pub child_in : Option NodeRow → List ℕ → Option ℕ
child_in None name = None
child_in (Some row) name = value_of row.entries name

abbrev pub walk : Nodes → ℕ → Path → Option ℕ
walk nodes n [] = Some n
walk nodes n (name ∷ p) = option_and_then (λ m. walk nodes m p) (child_in (nodes n) name)

abbrev pub look : History → ℕ → Path → Option ℕ
look h r p = option_and_then (λ n. walk (node_at h) n p) (slice_get h.roots r)

abbrev pub reaches : Nodes → ℕ → ℕ → Bool
reaches nodes zero n = true
reaches nodes (suc k) n = list_any (λ e. reaches nodes k e.1) (entries_at (nodes n))

-- ---- what the readers return

abbrev pub text_in : NodeRow → Option (List ℕ)
text_in row = text_by row.kind row.text
  where
    text_by : Kind → List ℕ → Option (List ℕ)
    text_by File text = Some text
    text_by Directory text = None

abbrev pub entries_in : NodeRow → Option (List (List ℕ × ℕ))
entries_in row = entries_by row.kind row.entries
  where
    entries_by : Kind → List (List ℕ × ℕ) → Option (List (List ℕ × ℕ))
    entries_by File entries = None
    entries_by Directory entries = Some entries

-- ---- the first history

-- n is one of the nodes, and a directory
abbrev pub IsDirectoryIn : List NodeRow → ℕ → Type 0
IsDirectoryIn nodes n = (row : NodeRow) × (slice_get nodes n ≡ Some row) × (row.kind ≡ Directory)

abbrev pub empty_directory : ℕ → NodeRow
empty_directory line = record { line = line; kind = Directory; text = []; props = []; entries = [] }

abbrev pub new_history : History
new_history = record { roots = 0 ∷ []; nodes = empty_directory 0 ∷ []; lines = 1 }
