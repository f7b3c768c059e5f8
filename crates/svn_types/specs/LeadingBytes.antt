-- Bytes, the first of them as one number, and zeros after them.
use Rattle.std.specs.Prelude.{◌≡◌, ℕ, zero, suc, ◌+◌, ◌*◌, ◌^◌, ◌<◌, ◌≤◌, List, get_or, drop}

-- the first n bytes as the digits of one number to the base 256, zeros after a shorter list
unfoldable pub leading : ℕ → List ℕ → ℕ
leading zero s = 0
leading (suc n) s = get_or s 0 0 * 256 ^ n + leading n (drop 1 s)

abbrev pub IsByteList : List ℕ → Type 0
IsByteList s = (i : ℕ) → get_or s i 0 < 256

-- zeros lie from a place on
abbrev pub IsZeroFrom : ℕ → List ℕ → Type 0
IsZeroFrom n room = (i : ℕ) → n ≤ i → get_or room i 0 ≡ 0
