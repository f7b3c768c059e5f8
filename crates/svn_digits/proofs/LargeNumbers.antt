-- Numbers that no further digit makes fit.
use Rattle.std.proofs.Common.{◌≡◌, ℕ, ◌+◌, ◌-◌, ◌*◌, ◌^◌, ◌≤◌, Bool, true, false, cond, not, ◌&&◌, List, [], ◌∷◌, ◌++◌, length, length-append, sym, ◌∙◌, arith, None, nat_lt, nat_le, nat_eq, refl}
use Rattle.std.specs.List.{list_all}
use Rattle.std.proofs.lemmas.Bool.{and_parts, ltb-false, leb-true, le-ltb, le-leb, ne_eqb}
use Rattle.std.proofs.lemmas.List.Folds.{list_all-append}
use Rattle.svn_lists.proofs.Options.{cond_none}
use Rattle.svn_digits.specs.Numbers.{is_digit, decimal_from, decimal_value, fitting, has_bytes, number_of}
use Rattle.svn_digits.proofs.NumberLemmas.{decimal_from_grows}

in_turn : (n : ℕ) (xs ys : List ℕ) → decimal_from n (xs ++ ys) ≡ decimal_from (decimal_from n xs) ys
in_turn n [] ys = refl
in_turn n (b ∷ bs) ys = in_turn (n * 10 + (b - 48)) bs ys

abbrev is_form : List ℕ → Bool
is_form digits = has_bytes digits && nat_le (length digits) 20 && list_all is_digit digits

unfit : (digits : List ℕ) (form : Bool) → form ≡ true → cond form (fitting (decimal_value digits)) None ≡ None → 2 ^ 64 ≤ decimal_value digits
unfit digits true e h = ltb-false (decimal_value digits) (2 ^ 64) (cond_none (nat_lt (decimal_value digits) (2 ^ 64)) (decimal_value digits) None h).0
unfit digits false e h = cc

front_form : (b : ℕ) (bs more : List ℕ) → is_form (b ∷ bs ++ more) ≡ true → is_form (b ∷ bs) ≡ true
front_form b bs more e =
    let all = b ∷ bs ++ more in
    let digits = b ∷ bs in
    let parts = and_parts (has_bytes all && nat_le (length all) 20) (list_all is_digit all) e in
    let few = leb-true (length all) 20 (and_parts (has_bytes all) (nat_le (length all) 20) parts.0).1 in
    let each = and_parts (list_all is_digit digits) (list_all is_digit more) (sym (list_all-append is_digit digits more) ∙ parts.1) in
    let size = length-append digits more in
    let some : nat_eq (length digits) 0 ≡ false = ne_eqb (length digits) 0 (λ none. omega (arith, none)) in
    let short : nat_le (length digits) 20 ≡ true = le-leb (length digits) 20 (omega (arith, few, size)) in
    formed (nat_eq (length digits) 0) (nat_le (length digits) 20) (list_all is_digit digits) some short each.0
  where
    formed : (x y z : Bool) → x ≡ false → y ≡ true → z ≡ true → (not x && y && z) ≡ true
    formed x y z e f g = rw (e, f, g) refl

large_on : (digits more : List ℕ) → 2 ^ 64 ≤ decimal_value digits → fitting (decimal_value (digits ++ more)) ≡ None
large_on digits more large =
    let grows = decimal_from_grows (decimal_value digits) more in
    let same = in_turn 0 digits more in
    let above : nat_lt (decimal_value (digits ++ more)) (2 ^ 64) ≡ false = le-ltb (decimal_value (digits ++ more)) (2 ^ 64) (omega (arith, large, grows, same)) in
    rw above refl

-- digits that are too many or too large stay so
pub stays_large : (b : ℕ) (bs more : List ℕ) → number_of (b ∷ bs) ≡ None → number_of (b ∷ bs ++ more) ≡ None
stays_large b bs more h = by_form (is_form (b ∷ bs ++ more)) refl
  where
    by_form : (form : Bool) → is_form (b ∷ bs ++ more) ≡ form → cond form (fitting (decimal_value (b ∷ bs ++ more))) None ≡ None
    by_form false e = refl
    by_form true e = large_on (b ∷ bs) more (unfit (b ∷ bs) (is_form (b ∷ bs)) (front_form b bs more e) h)
