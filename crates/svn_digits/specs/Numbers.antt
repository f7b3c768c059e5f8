-- Numbers in decimal digits.
--     number_of word      the number that a word is, or nothing where it is none
use Rattle.std.specs.Prelude.{ℕ, ◌+◌, ◌-◌, ◌*◌, ◌^◌, Bool, ◌&&◌, not, List, [], ◌∷◌, length, nat_lt, nat_le, nat_eq, Option, Some, None, if◌then◌else◌}
use Rattle.std.specs.List.{list_all}
use Rattle.svn_types.specs.Names.{is_between}

abbrev pub is_digit : ℕ → Bool
is_digit = is_between 48 57

-- the number that has the digits of n, and then these
abbrev pub decimal_from : ℕ → List ℕ → ℕ
decimal_from n [] = n
decimal_from n (b ∷ bs) = decimal_from (n * 10 + (b - 48)) bs

abbrev pub decimal_value : List ℕ → ℕ
decimal_value digits = decimal_from 0 digits

abbrev pub fitting : ℕ → Option ℕ
fitting n = if nat_lt n (2 ^ 64) then Some n else None

abbrev pub has_bytes : List ℕ → Bool
has_bytes bs = not (nat_eq (length bs) 0)

-- 1 to 20 decimal digits, at most 18446744073709551615
abbrev pub number_of : List ℕ → Option ℕ
number_of word =
    if has_bytes word && nat_le (length word) 20 && list_all is_digit word then fitting (decimal_value word)
    else None
