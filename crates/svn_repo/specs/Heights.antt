-- How deep the tree below a node is, given the heights of its children.
use Rattle.std.specs.Prelude.{ℕ, ◌+◌, ◌<◌, ◌≤◌, List, [], ◌∷◌, length, nat_lt, max, slice_get, Option, Some, None, if◌then◌else◌, ◌⊎◌}
use Rattle.std.specs.List.{All}
use Rattle.std.specs.Map.{values_of}
use Rattle.svn_repo.specs.declared.store.Node.{Node}
use Rattle.svn_repo.specs.History.{entries_at}
use Rattle.svn_types.specs.Limits.{path_limit}
use Rattle.svn_repo.specs.Stored.{rows}

-- the height of a directory that has one child
abbrev pub height_above : Option ℕ → ℕ
height_above None = path_limit
height_above (Some k) = if nat_lt k path_limit then k + 1 else path_limit

-- the height of a directory whose entries so far make the given height
abbrev pub height_from : List ℕ → ℕ → List (List ℕ × ℕ) → ℕ
height_from heights height [] = height
height_from heights height (e ∷ es) = height_from heights (max height (height_above (slice_get heights e.1))) es

-- the children of the nodes from the base on are nodes before the base, or later ones
pub record IsOrdered (nodes : List Node) (base : ℕ) : Type 0 where
  pub inside : base ≤ length nodes
  pub children : (n : ℕ) → base ≤ n → All (λ m. (m < base) ⊎ ((n < m) × (m < length nodes))) (values_of (entries_at (rows nodes n)))
