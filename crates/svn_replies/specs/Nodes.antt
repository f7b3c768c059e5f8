-- What is read of nodes.
--     line_at h r p      the line of the node at path p of revision r
--     has_props h n      whether node n has properties
use Rattle.std.specs.Prelude.{ℕ, Bool, true, false, List, ◌∷◌, Option, Some, option_and_then}
use Rattle.std.specs.Option.{option_map}
use Rattle.svn_types.specs.Names.{Path}
use Rattle.svn_repo.specs.History.{History, look, node_at}

abbrev pub line_at : History → ℕ → Path → Option ℕ
line_at h r p = option_and_then (λ n. option_map (λ row. row.line) (node_at h n)) (look h r p)

abbrev pub is_not_empty : Option (List (List ℕ × List ℕ)) → Bool
is_not_empty (Some (prop ∷ props)) = true
is_not_empty _ = false

abbrev pub has_props : History → ℕ → Bool
has_props h n = is_not_empty (option_map (λ row. row.props) (node_at h n))
