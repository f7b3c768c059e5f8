-- What a node is, read at any number, and what every repository meets.
--     line_of h n, kind_of h n, text_of h n, props_of h n, entries_of h n      of a node that isn't there, those of an empty file of line 0
--     are_related h m n      both numbers are given, and their nodes are of one line
--     IsHistory h      the laws of every repository
use Rattle.std.specs.Prelude.{◌≡◌, ℕ, ◌<◌, ◌≤◌, Bool, true, false, List, [], ◌∷◌, length, nat_eq, Option, Some, None}
use Rattle.svn_types.specs.declared.kind.Kind.{Kind}
use Rattle.svn_types.specs.declared.kind.Kind.TheVariants.{File, Directory}
use Rattle.svn_types.specs.Limits.{path_limit, size_limit}
use Rattle.svn_types.specs.Names.{Path, IsName}
use Rattle.svn_types.specs.Pairs.{InNameOrder}
use Rattle.svn_repo.specs.History.{NodeRow, History, node_at, look}

abbrev pub row_or_empty : Option NodeRow → NodeRow
row_or_empty None = record { line = 0; kind = File; text = []; props = []; entries = [] }
row_or_empty (Some row) = row

abbrev pub line_of : History → ℕ → ℕ
line_of h n = (row_or_empty (node_at h n)).line

abbrev pub kind_of : History → ℕ → Kind
kind_of h n = (row_or_empty (node_at h n)).kind

abbrev pub text_of : History → ℕ → List ℕ
text_of h n = (row_or_empty (node_at h n)).text

abbrev pub props_of : History → ℕ → List (List ℕ × List ℕ)
props_of h n = (row_or_empty (node_at h n)).props

abbrev pub entries_of : History → ℕ → List (List ℕ × ℕ)
entries_of h n = (row_or_empty (node_at h n)).entries

abbrev pub is_directory : Kind → Bool
is_directory File = false
is_directory Directory = true

abbrev pub is_directory_at : History → Option ℕ → Bool
is_directory_at h None = false
is_directory_at h (Some n) = is_directory (kind_of h n)

-- both numbers are given, and their nodes are of one line
abbrev pub are_related : History → Option ℕ → Option ℕ → Bool
are_related h (Some m) (Some n) = nat_eq (line_of h m) (line_of h n)
are_related h _ _ = false

-- ---- the laws

abbrev pub SmallValues : List (List ℕ × List ℕ) → Type 0
SmallValues [] = Unit {0}
SmallValues (e ∷ es) = (length e.1 ≤ size_limit) × SmallValues es

abbrev pub AllNames : List (List ℕ × ℕ) → Type 0
AllNames [] = Unit {0}
AllNames (e ∷ es) = IsName e.0 × AllNames es

-- n is the node at p in revision r
abbrev pub StandsAt : History → ℕ → Path → ℕ → Type 0
StandsAt h r p n = look h r p ≡ Some n

-- the root is a directory of line 0 in every revision; each node has a line that was given, of one kind, and is within the limits
pub record IsHistory (h : History) : Type 0 where
  pub root_line : (r n : ℕ) → StandsAt h r [] n → line_of h n ≡ 0
  pub root_is_directory : (r n : ℕ) → StandsAt h r [] n → kind_of h n ≡ Directory
  pub files_are_leaves : (r : ℕ) (p : Path) (n : ℕ) → StandsAt h r p n → kind_of h n ≡ File → entries_of h n ≡ []
  pub directories_without_text : (r : ℕ) (p : Path) (n : ℕ) → StandsAt h r p n → kind_of h n ≡ Directory → text_of h n ≡ []
  pub one_line_one_kind : (r s : ℕ) (p q : Path) (m n : ℕ) → StandsAt h r p m → StandsAt h s q n → line_of h m ≡ line_of h n
      → kind_of h m ≡ kind_of h n
  pub lines_below_next : (r : ℕ) (p : Path) (n : ℕ) → StandsAt h r p n → line_of h n < h.lines
  pub entries_in_order : (r : ℕ) (p : Path) (n : ℕ) → StandsAt h r p n → InNameOrder (entries_of h n)
  pub entries_named : (r : ℕ) (p : Path) (n : ℕ) → StandsAt h r p n → AllNames (entries_of h n)
  pub props_in_order : (r : ℕ) (p : Path) (n : ℕ) → StandsAt h r p n → InNameOrder (props_of h n)
  pub props_small : (r : ℕ) (p : Path) (n : ℕ) → StandsAt h r p n → SmallValues (props_of h n)
  pub texts_small : (r : ℕ) (p : Path) (n : ℕ) → StandsAt h r p n → length (text_of h n) ≤ size_limit
  pub paths_short : (r : ℕ) (p : Path) (n : ℕ) → StandsAt h r p n → length p ≤ path_limit
