-- What is between two dollar signs, and what becomes of the end of a line.
--     IsAfterName value      what is after the name of a keyword: nothing, or a value, which begins with a colon
--     Pushes keyword old is new      what is written of it: where it is a keyword, what it is kept as, and else nothing
--     IsEnded end text out before      so far line ends are written as this one
use Rattle.std.specs.Prelude.{◌≡◌, ◌⊎◌, ℕ, Bool, true, false, ◌||◌, not, nat_eq, List, [], ◌∷◌, ◌++◌, codes}
use Rattle.svn_disk.specs.Readings.{Rewrites, IsKeyword, AreEnds}

-- a byte that ends no line
abbrev pub no_end : ℕ → Bool
no_end b = not (nat_eq b 10 || nat_eq b 13)

-- a byte that is no dollar sign
abbrev pub no_sign : ℕ → Bool
no_sign b = not (nat_eq b 36)

abbrev pub IsAfterName : List ℕ → Type 0
IsAfterName value = (value ≡ []) ⊎ ((words : List ℕ) × (value ≡ codes ":" ++ words))

abbrev pub IsKept : List ℕ → List ℕ → Type 0
IsKept shown kept = (shown ≡ kept) ⊎ IsKeyword shown kept

abbrev pub Pushes : List ℕ → List ℕ → Bool → List ℕ → Type 0
Pushes keyword old true new = (kept : List ℕ) × IsKept (codes "$" ++ keyword ++ codes "$") kept × (new ≡ old ++ kept)
Pushes keyword old false new = new ≡ old

-- so far: where the last byte is a carriage return, a line feed may belong to the same end
pub record IsEnded (end text out : List ℕ) (before : ℕ) : Type 0 where
  pub rewritten : Rewrites AreEnds text out
  pub half : before ≡ 13 → (shown kept : List ℕ) × (text ≡ shown ++ 13 ∷ []) × (out ≡ kept ++ end) × Rewrites AreEnds shown kept
