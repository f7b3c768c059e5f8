-- Numbers in decimal digits, as they are written: they are digits, and are read as that number.
use Rattle.std.proofs.Common.{◌≡◌, ℕ, ◌+◌, ◌-◌, ◌*◌, ◌/◌, ◌%◌, ◌^◌, ◌<◌, ◌≤◌, true, false, List, [], ◌∷◌, ◌++◌, length, Some, refl, ◌∙◌, arith, nat_eq, decimal, length-append}
use Rattle.std.specs.List.{list_all}
use Rattle.std.proofs.lemmas.Bool.{ne_eqb, le-leb, lt-ltb}
use Rattle.std.proofs.lemmas.Fmt.{decimal_by_steps, length-decimal-le}
use Rattle.svn_lists.proofs.Somewhere.{list_all_push}
use Rattle.svn_digits.specs.Numbers.{is_digit, decimal_from, number_of}

-- digits that spell a number
pub record Spells (n : ℕ) (digits : List ℕ) : Type 0 where
  pub some : 1 ≤ length digits
  pub all_digits : list_all is_digit digits ≡ true
  pub value : decimal_from 0 digits ≡ n

is_digit_of : (d : ℕ) → d < 10 → is_digit (48 + d) ≡ true
is_digit_of d less = rw (le-leb 48 (48 + d) (omega arith), le-leb (48 + d) 57 (omega (arith, less))) refl

one_more_digit : (n : ℕ) (digits : List ℕ) (b : ℕ) → decimal_from n (digits ++ b ∷ []) ≡ decimal_from n digits * 10 + (b - 48)
one_more_digit n [] b = refl
one_more_digit n (c ∷ digits) b = one_more_digit (n * 10 + (c - 48)) digits b

pub spelled : (n : ℕ) → n < 2 ^ 64 → Spells n (decimal n)
spelled n small = decimal_by_steps Spells one more n small
  where
    one : (n : ℕ) → n < 10 → Spells n ((48 + n) ∷ [])
    one n less = record {
      some = omega arith;
      all_digits = list_all_push is_digit [] (48 + n) refl (is_digit_of n less);
      value = omega arith;
    }

    more : (n : ℕ) (digits : List ℕ) → 10 ≤ n → Spells (n / 10) digits → Spells n (digits ++ ((48 + n % 10) ∷ []))
    more n digits large s = record {
      some = omega (arith, length-append digits ((48 + n % 10) ∷ []));
      all_digits = list_all_push is_digit digits (48 + n % 10) s.all_digits (is_digit_of (n % 10) (omega arith));
      value = one_more_digit 0 digits (48 + n % 10) ∙ whole (decimal_from 0 digits) s.value;
    }
      where
        whole : (v : ℕ) → v ≡ n / 10 → v * 10 + (48 + n % 10 - 48) ≡ n
        whole v same = omega (arith, same)

pub number_of_decimal : (n : ℕ) → n < 2 ^ 64 → number_of (decimal n) ≡ Some n
number_of_decimal n small =
    read (decimal n) (spelled n small) (length-decimal-le 20 n (omega arith) (omega (arith, small)) small)
  where
    read : (digits : List ℕ) → Spells n digits → length digits ≤ 20 → number_of digits ≡ Some n
    read digits s few =
        let some : nat_eq (length digits) 0 ≡ false = ne_eqb (length digits) 0 (λ none. omega (arith, none, s.some)) in
        rw (some, le-leb (length digits) 20 few, s.all_digits, s.value, lt-ltb n (2 ^ 64) small) refl
