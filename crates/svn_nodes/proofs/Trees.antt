-- What is below a path, one name at a time.
use Rattle.std.proofs.Common.{◌≡◌, ℕ, List, [], ◌∷◌, ◌++◌, refl, sym, ap, ◌∙◌, append_assoc, Option, Some, None}
use Rattle.std.proofs.lemmas.List.{append-nil}
use Rattle.std.specs.Option.{option_map, option_and_then}
use Rattle.svn_types.specs.Names.{Path}
use Rattle.svn_types.specs.Pairs.{value_of}
use Rattle.svn_repo.specs.History.{History, NodeRow, node_at, walk, child_in}
use Rattle.svn_repo.specs.Readings.{row_or_empty, entries_of}
use Rattle.svn_model.specs.Nodes.{base_node}
use Rattle.svn_nodes.specs.Standing.{standing, standing_at}

child_by : (o : Option NodeRow) (name : List ℕ) → child_in o name ≡ value_of (row_or_empty o).entries name
child_by None name = refl
child_by (Some row) name = refl

pub child_value : (h : History) (n : ℕ) (name : List ℕ) → child_in (node_at h n) name ≡ value_of (entries_of h n) name
child_value h n name = child_by (node_at h n) name

-- at the path itself
pub standing-here : (h : History) (rev : ℕ) (q : Path) (n : ℕ) → standing h rev q n [] ≡ Some (base_node h rev q n)
standing-here h rev q n = ap (λ p. Some (base_node h rev p n)) (append-nil q)

-- below a name
pub standing-below : (h : History) (rev : ℕ) (q : Path) (n : ℕ) (name : List ℕ) (r : Path)
    → standing h rev q n (name ∷ r) ≡ standing_at h rev q name (value_of (entries_of h n) name) r
standing-below h rev q n name r =
    ap (λ o. option_map (base_node h rev (q ++ name ∷ r)) (option_and_then (λ m. walk (node_at h) m r) o)) (child_value h n name)
    ∙ by (value_of (entries_of h n) name)
  where
    by : (o : Option ℕ)
        → option_map (base_node h rev (q ++ name ∷ r)) (option_and_then (λ m. walk (node_at h) m r) o) ≡ standing_at h rev q name o r
    by None = refl
    by (Some m) = ap (λ p. option_map (base_node h rev p) (walk (node_at h) m r)) (sym (append_assoc q (name ∷ []) r))
