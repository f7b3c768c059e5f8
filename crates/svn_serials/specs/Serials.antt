-- What a contract sees of a map: the list of its pairs.
use Rattle.std.specs.Prelude.{nat_eq, ℕ, List, Option}
use Rattle.std.specs.List.Sorted.{IsStrictlySortedBy}
use Rattle.std.specs.Map.{keys_of, lookup}
use Rattle.std.specs.Ordering.{nat_cmp}

module _ {V : Type 0} where
  -- the value of a serial
  abbrev pub get : List (ℕ × V) → ℕ → Option V
  get es serial = lookup (nat_eq serial) es

  -- each serial is below those after it
  abbrev pub IsRising : List (ℕ × V) → Type 0
  IsRising es = IsStrictlySortedBy nat_cmp (keys_of es)
