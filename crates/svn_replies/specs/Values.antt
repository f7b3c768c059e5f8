-- Values of properties by their names.
--     value_in name props      the value of the property of that name
--     value_at revisions r name      the same of a revision
use Rattle.std.specs.Prelude.{ℕ, List, [], ◌∷◌, bytes_eq, slice_get, Option, Some, None, option_and_then, if◌then◌else◌}

abbrev pub Pairs : Type 0
Pairs = List (List ℕ × List ℕ)

abbrev pub value_in : List ℕ → Pairs → Option (List ℕ)
value_in name [] = None
value_in name (prop ∷ props) = if bytes_eq prop.0 name then Some prop.1 else value_in name props

abbrev pub value_at : List Pairs → ℕ → List ℕ → Option (List ℕ)
value_at revisions r name = option_and_then (value_in name) (slice_get revisions r)
