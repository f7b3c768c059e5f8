-- How many bytes were taken of a reader.
--     OfAll all taken left      so many were taken of all, and these are left
--     Counts taken left then_taken then_left      what is taken is counted
--     Grows taken count then_taken      so many more were taken at least, or as many as a count can say
use Rattle.std.specs.Prelude.{◌≡◌, ℕ, ◌+◌, ◌-◌, ◌<◌, ◌≤◌, ◌^◌, min, List, length, Option, Some, None}

-- there are fewer than a count can say, and what is left is known
unfoldable pub OfAll : ℕ → ℕ → Option (List ℕ) → Type 0
OfAll all taken None = ⊥
OfAll all taken (Some left) = (taken + length left ≡ all) × (all < 2 ^ 64)

abbrev pub Counts : ℕ → Option (List ℕ) → ℕ → Option (List ℕ) → Type 0
Counts taken left then_taken then_left = (all : ℕ) → OfAll all taken left → OfAll all then_taken then_left

abbrev pub Grows : ℕ → ℕ → ℕ → Type 0
Grows taken count then_taken = (taken ≤ then_taken) × (min (taken + count) (2 ^ 64 - 1) ≤ then_taken)
