-- Trees of the repository as a copy has them, and how one is gathered.
--     standing h rev q n      what is below path q, where q has node n of revision rev
--     Puts part q w w'     the part is at q and below, and elsewhere nothing changed
use Rattle.std.specs.Prelude.{◌≡◌, ℕ, true, false, List, [], ◌∷◌, ◌++◌, Option, Some, option_map, option_and_then, is_some}
use Rattle.svn_types.specs.Names.{Path}
use Rattle.svn_types.specs.Paths.{is_within}
use Rattle.svn_types.specs.Pairs.{InNameOrder, value_of}
use Rattle.svn_repo.specs.History.{History, node_at, walk}
use Rattle.svn_model.specs.declared.base_node.BaseNode.{BaseNode}
use Rattle.svn_model.specs.Nodes.{WorkingCopy, base_node}

abbrev pub standing : History → ℕ → Path → ℕ → WorkingCopy
standing h rev q n r = option_map (base_node h rev (q ++ r)) (walk (node_at h) n r)

-- elsewhere than at q and below nothing changed
abbrev pub SameOutside : Path → WorkingCopy → WorkingCopy → Type 0
SameOutside q w w' = (p : Path) → is_within q p ≡ false → w' p ≡ w p

-- at q and below is the part, and elsewhere nothing changed
pub record Puts (part : WorkingCopy) (q : Path) (w w' : WorkingCopy) : Type 0 where
  pub inside : (r : Path) → w' (q ++ r) ≡ part r
  pub outside : SameOutside q w w'

-- ---- one entry of a directory after the other

-- entries are taken in order of their names: those that are left are as before, the others are done
pub record IsSwept {V : Type 0} (q : Path) (left : List (List ℕ × V)) (before after : List ℕ → Path → Option BaseNode → Type 0)
    (w w' : WorkingCopy) : Type 0 where
  pub order : InNameOrder left
  pub here : w' q ≡ w q
  pub outside : SameOutside q w w'
  pub waiting : (name : List ℕ) → is_some (value_of left name) ≡ true → (r : Path) → before name r (w' (q ++ name ∷ r))
  pub done : (name : List ℕ) → is_some (value_of left name) ≡ false → (r : Path) → after name r (w' (q ++ name ∷ r))

-- the entries that are left are among all of them
abbrev pub AreAmong : {V : Type 0} → List (List ℕ × V) → List (List ℕ × V) → Type 0
AreAmong {V} left all = (name : List ℕ) (v : V) → value_of left name ≡ Some v → value_of all name ≡ Some v

-- what is below a name of q, if it has a node
abbrev pub standing_at : History → ℕ → Path → List ℕ → Option ℕ → WorkingCopy
standing_at h rev q name node r = option_and_then (λ n. standing h rev (q ++ name ∷ []) n r) node
