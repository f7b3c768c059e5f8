-- Sets of names, as lists.
use Rattle.std.specs.Prelude.{◌≡◌, ℕ, Bool, true, ◌||◌, List, bytes_eq, Option, Some, None}
use Rattle.std.specs.List.{list_any}
use Rattle.std.specs.Ordering.{is_lt}
use Rattle.svn_types.specs.Names.{name_cmp}

abbrev pub has_name : List (List ℕ) → List ℕ → Bool
has_name names n = list_any (bytes_eq n) names

-- the second set has this name too
abbrev pub Inserts : List (List ℕ) → List ℕ → List (List ℕ) → Type 0
Inserts old n new = (m : List ℕ) → has_name new m ≡ (has_name old m || bytes_eq n m)

-- a name is after another, if there is that one
abbrev pub is_behind : Option (List ℕ) → List ℕ → Bool
is_behind None n = true
is_behind (Some last) n = is_lt (name_cmp last n)
