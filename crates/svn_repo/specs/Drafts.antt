-- The stored nodes while a commit is made. Those from the base on are made by it, and are at one path at most.
use Rattle.std.specs.Prelude.{◌≡◌, ◌≢◌, ℕ, ◌<◌, ◌≤◌, List, [], ◌∷◌, ◌++◌, length, bytes_eq, slice_get, Option, Some, None, option_map}
use Rattle.std.specs.Prelude.{option_and_then, if◌then◌else◌, take, ◌⊎◌}
use Rattle.std.specs.List.{All}
use Rattle.std.specs.Map.{keys_of, values_of}
use Rattle.svn_repo.specs.declared.store.Node.{Node}
use Rattle.svn_repo.specs.declared.store.Content.TheVariants.{Listing}
use Rattle.svn_types.specs.Names.{Path, IsName}
use Rattle.svn_types.specs.Pairs.{InNameOrder, with_value}
use Rattle.svn_repo.specs.History.{History, entries_at, child_in, walk}
use Rattle.svn_repo.specs.Stored.{row_of, rows, history_of, IsHeight}
use Rattle.svn_repo.specs.Trees.{Place, place_of, Tree, tree_below, touch, graft, place_with_prop}
use Rattle.svn_repo.specs.declared.change.Change.{Change}
use Rattle.svn_repo.specs.declared.change.Change.TheVariants.{MakeDir, PutFile, SetProp, Remove, CopyFrom}
use Rattle.svn_types.specs.Paths.{parent}

-- each child is one of the nodes
abbrev pub IsClosedIn : List Node → Type 0
IsClosedIn nodes = (n m : ℕ) (name : List ℕ) → child_in (rows nodes n) name ≡ Some m → m < length nodes

-- the entries of node n are in order, under lawful names, and a fresh child of a fresh node is a later node
pub record IsDraftEntries (base n : ℕ) (es : List (List ℕ × ℕ)) : Type 0 where
  pub in_order : InNameOrder es
  pub named : All IsName (keys_of es)
  pub later : base ≤ n → All (λ m. (m < base) ⊎ (n < m)) (values_of es)

pub record IsDraft (base : ℕ) (nodes : List Node) (root : ℕ) : Type 0 where
  pub base_in : base ≤ length nodes
  pub root_in : root < length nodes
  pub closed : IsClosedIn nodes
  pub old_closed : (n m : ℕ) (name : List ℕ) → n < base → child_in (rows nodes n) name ≡ Some m → m < base
  pub distinct : (p q : Path) (m : ℕ) → base ≤ m → walk (rows nodes) root p ≡ Some m → walk (rows nodes) root q ≡ Some m → p ≡ q
  pub each : (n : ℕ) → IsDraftEntries base n (entries_at (rows nodes n))

-- a node but for its entries
abbrev pub shape_at : List Node → ℕ → Option Place
shape_at nodes n = option_map (place_of None) (rows nodes n)

-- the node is a directory
abbrev pub IsListing : List Node → ℕ → Type 0
IsListing nodes n = (node : Node) × (entries : List (List ℕ × ℕ)) × (slice_get nodes n ≡ Some node) × (node.content ≡ Listing entries)

-- the name in the directory leads to the child, or nowhere, and nothing else changes
pub record PutsChild (old new : List Node) (at : ℕ) (name : List ℕ) (child : Option ℕ) : Type 0 where
  pub size : length new ≡ length old
  pub others : (m : ℕ) → m ≢ at → slice_get new m ≡ slice_get old m
  pub shape : shape_at new at ≡ shape_at old at
  pub children : (x : List ℕ) → child_in (rows new at) x ≡ (if bytes_eq name x then child else child_in (rows old at) x)
  pub entries : entries_at (rows new at) ≡ with_value (entries_at (rows old at)) name child
  pub named : IsName name

-- a copy of the node is made, and is the last one
abbrev pub CopiesNode : List Node → List Node → ℕ → Type 0
CopiesNode old new n = (node : Node) × (new ≡ old ++ node ∷ []) × (rows old n ≡ Some (row_of node))

-- the child of a directory is made anew, where it isn't yet, and the name leads to it
pub data ThawsChild (base : ℕ) (old new : List Node) (at : ℕ) (name : List ℕ) (result : ℕ) : Type 0 where
  already : child_in (rows old at) name ≡ Some result → base ≤ result → new ≡ old → ThawsChild base old new at name result
  copied : (n : ℕ) (between : List Node) → child_in (rows old at) name ≡ Some n → n < base → result ≡ length old → CopiesNode old between n
      → PutsChild between new at name (Some result) → ThawsChild base old new at name result

abbrev pub tree_in : ℕ → List Node → ℕ → Tree
tree_in base nodes root = tree_below (rows nodes) base root

-- every node from the root to p is made anew, and the last one is n
pub record IsThawed (base : ℕ) (old new : List Node) (from root : ℕ) (p : Path) (n : ℕ) : Type 0 where
  pub draft : IsDraft base new root
  pub here : walk (rows new) root p ≡ Some n
  pub fresh : base ≤ n
  pub tree : (q : Path) → tree_in base new root q ≡ touch (tree_in base old from) p q

-- what is known to be at the path, if anything is
abbrev pub IsFound : List Node → ℕ → Path → Option ℕ → Type 0
IsFound nodes root p found = (n : ℕ) → found ≡ Some n → walk (rows nodes) root p ≡ Some n

-- what is known to be where a change works: the node whose property is set, and of other changes the directory above
abbrev pub IsNear : List Node → ℕ → Change → Option ℕ → Type 0
IsNear nodes root (MakeDir path) near = IsFound nodes root (parent path) near
IsNear nodes root (PutFile path text) near = IsFound nodes root (parent path) near
IsNear nodes root (SetProp path name value) near = IsFound nodes root path near
IsNear nodes root (Remove path) near = near ≡ None
IsNear nodes root (CopyFrom rev source path) near = near ≡ None

-- the old nodes stay
pub record KeepsOld (base : ℕ) (old new : List Node) : Type 0 where
  pub grown : length old ≤ length new
  pub same : (m : ℕ) → m < base → slice_get new m ≡ slice_get old m

-- the part is at p, below directories made anew
pub record IsGrafted (base : ℕ) (old new : List Node) (from root : ℕ) (p : Path) (part : Tree) : Type 0 where
  pub draft : IsDraft base new root
  pub fresh : base ≤ root
  pub tree : (q : Path) → tree_in base new root q ≡ graft (tree_in base old from) p part q

-- the trees of an old node, or nothing
abbrev pub old_part : ℕ → List Node → Option ℕ → Tree
old_part base nodes w r = option_and_then (λ c. tree_in base nodes c r) w

abbrev pub IsOld : ℕ → Option ℕ → Type 0
IsOld base w = (c : ℕ) → w ≡ Some c → c < base

-- the property of the node is set or removed, and nothing else changes
pub record SetsProp (old new : List Node) (at : ℕ) (name : List ℕ) (value : Option (List ℕ)) : Type 0 where
  pub size : length new ≡ length old
  pub others : (m : ℕ) → m ≢ at → slice_get new m ≡ slice_get old m
  pub shape : shape_at new at ≡ option_map (place_with_prop name value) (shape_at old at)
  pub children : (x : List ℕ) → child_in (rows new at) x ≡ child_in (rows old at) x
  pub entries : entries_at (rows new at) ≡ entries_at (rows old at)

-- ---- the revisions that a draft is made over

-- the node at a path in a revision, where the nodes may have a draft's after them
abbrev pub look_in : List Node → List ℕ → ℕ → Path → Option ℕ
look_in nodes roots r p = option_and_then (λ n. walk (rows nodes) n p) (slice_get roots r)

-- the history without the draft: its nodes are the first of the stored ones
abbrev pub past_in : ℕ → List ℕ → List Node → ℕ → History
past_in base roots nodes lines = history_of roots (take base nodes) lines

-- each root is one of the old nodes
abbrev pub AreRootsBelow : ℕ → List ℕ → Type 0
AreRootsBelow base roots = (r n : ℕ) → slice_get roots r ≡ Some n → n < base

-- the old nodes, as many as heights, lead to old nodes, and have these heights
pub record IsOldPart (heights : List ℕ) (nodes : List Node) : Type 0 where
  pub inside : length heights ≤ length nodes
  pub closed : (n m : ℕ) (name : List ℕ) → n < length heights → child_in (rows nodes n) name ≡ Some m → m < length heights
  pub known : (n k : ℕ) → slice_get heights n ≡ Some k → IsHeight (rows (take (length heights) nodes)) n k

pub record IsPast (roots heights : List ℕ) (nodes : List Node) : Type 0 where
  pub roots_in : AreRootsBelow (length heights) roots
  pub old : IsOldPart heights nodes
