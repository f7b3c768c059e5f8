-- The tree of a revision while a commit is made: what is at each path, with no shared nodes.
--     tree_at h r      the tree of a revision
--     graft t p part      the part put at p, with every directory above p made anew
use Rattle.std.specs.Prelude.{◌≡◌, ℕ, ◌<◌, ◌≤◌, Bool, true, false, length, take, List, [], ◌∷◌, ◌++◌, Option, Some, None, option_map}
use Rattle.std.specs.Prelude.{option_and_then, is_some, nat_lt, if◌then◌else◌}
use Rattle.svn_types.specs.declared.kind.Kind.{Kind}
use Rattle.svn_types.specs.declared.kind.Kind.TheVariants.{File, Directory}
use Rattle.svn_types.specs.Names.{Path}
use Rattle.svn_types.specs.Pairs.{with_value}
use Rattle.svn_repo.specs.Walks.{rest_below, led}
use Rattle.svn_repo.specs.History.{NodeRow, History, Nodes, node_at, walk, look}

-- what is at a path: the node that it still is, or none where it was made anew, and its content but for its entries
pub record Place : Type 0 where
  pub number : Option ℕ
  pub line : ℕ
  pub kind : Kind
  pub text : List ℕ
  pub props : List (List ℕ × List ℕ)

abbrev pub Tree : Type 0
Tree = Path → Option Place

abbrev pub place_of : Option ℕ → NodeRow → Place
place_of number row = record { number = number; line = row.line; kind = row.kind; text = row.text; props = row.props }

-- a node below the base is an old one
abbrev pub place_at : Nodes → ℕ → ℕ → Option Place
place_at nodes base n = option_map (place_of (if nat_lt n base then Some n else None)) (nodes n)

-- the tree below a node, in which the nodes below the base are old ones
abbrev pub tree_below : Nodes → ℕ → ℕ → Tree
tree_below nodes base n q = option_and_then (place_at nodes base) (walk nodes n q)

-- the tree of a revision, each node still being what it is
abbrev pub tree_at : History → ℕ → Tree
tree_at h r q = option_and_then (place_at (node_at h) (length h.nodes)) (look h r q)

abbrev pub touched : Place → Place
touched p = record { number = None; line = p.line; kind = p.kind; text = p.text; props = p.props }

abbrev pub is_within : Path → Path → Bool
is_within p q = is_some (rest_below p q)

-- every node from the root to p made anew
abbrev pub touch : Tree → Path → Tree
touch t p q = if is_within q p then option_map touched (t q) else t q

abbrev pub graft : Tree → Path → Tree → Tree
graft t p part q = led (rest_below p q) part (touch t p q)

abbrev pub is_directory_place : Option Place → Bool
is_directory_place None = false
is_directory_place (Some p) = is_directory_kind p.kind
  where
    is_directory_kind : Kind → Bool
    is_directory_kind File = false
    is_directory_kind Directory = true

-- every node above p is a directory, and p is there
pub record IsWay (t : Tree) (p : Path) : Type 0 where
  pub directories : (i : ℕ) → i < length p → is_directory_place (t (take i p)) ≡ true
  pub present : (i : ℕ) → i ≤ length p → is_some (t (take i p)) ≡ true

-- one node with nothing below it
abbrev pub leaf : Place → Tree
leaf p [] = Some p
leaf p (name ∷ q) = None

abbrev pub nothing : Tree
nothing q = None

abbrev pub place_with_prop : List ℕ → Option (List ℕ) → Place → Place
place_with_prop name value p = record { number = None; line = p.line; kind = p.kind; text = p.text; props = with_value p.props name value }

-- the part at p with a property set or removed
abbrev pub with_prop : Tree → Path → List ℕ → Option (List ℕ) → Tree
with_prop t p name value [] = option_map (place_with_prop name value) (t p)
with_prop t p name value (x ∷ q) = t (p ++ x ∷ q)
