-- Decimal numbers, digit by digit.
use Rattle.std.proofs.Common.{◌≡◌, ℕ, ◌+◌, ◌-◌, ◌*◌, ◌^◌, ◌≤◌, List, [], ◌∷◌, ap, sym, ◌∙◌, arith, None, nat_lt}
use Rattle.std.proofs.lemmas.Bool.Decides.{nat_tests}
use Rattle.std.proofs.lemmas.Bool.{ltb-false}
use Rattle.svn_lists.proofs.Options.{cond_none}
use Rattle.svn_digits.specs.Numbers.{decimal_from, fitting}

-- more digits never make a number smaller
pub decimal_from_grows : (n : ℕ) (bs : List ℕ) → n ≤ decimal_from n bs
decimal_from_grows n [] = omega arith
decimal_from_grows n (b ∷ bs) =
    let more = decimal_from_grows (n * 10 + (b - 48)) bs in
    omega (arith, more)

-- a number that doesn't fit stays so with more digits
too_large : (n : ℕ) (bs : List ℕ) → 2 ^ 64 ≤ n → fitting (decimal_from n bs) ≡ None
too_large n bs h =
    let more = decimal_from_grows n bs in
    let large : 2 ^ 64 ≤ decimal_from n bs = omega (arith, more) in
    unfitting (decimal_from n bs) large
  where
    unfitting : (m : ℕ) → 2 ^ 64 ≤ m → fitting m ≡ None
    unfitting m large = grind (arith, nat_tests)

not_fitting : (n : ℕ) → None ≡ fitting n → 2 ^ 64 ≤ n
not_fitting n h = ltb-false n (2 ^ 64) (cond_none (nat_lt n (2 ^ 64)) n None (sym h)).0

-- where one more digit is too many, the whole number is too large
pub no_digit_fits : (v b : ℕ) (after : List ℕ) (all : ℕ) → None ≡ fitting (v * 10 + (b - 48)) → decimal_from v (b ∷ after) ≡ all
    → None ≡ fitting all
no_digit_fits v b after all h e =
    sym (too_large (v * 10 + (b - 48)) after (not_fitting (v * 10 + (b - 48)) h)) ∙ ap fitting e
