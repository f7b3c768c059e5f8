-- Numbers of two digits, b * p + l with l below p: the first digits decide, and after equal ones the last.
use Rattle.std.proofs.Common.{ap, arith, inl, inr, refl, subst, suc, sym, zero, ℕ, ◌*◌, ◌+◌, ◌<◌, ◌∙◌, ◌≡◌, ◌≢◌}
use Rattle.std.specs.Ordering.{nat_cmp}
use Rattle.std.specs.declared.cmp.Ordering.{Ordering}
use Rattle.std.specs.declared.cmp.Ordering.TheVariants.{Equal, Greater, Less}
use Rattle.std.proofs.Math.Arith.{digits_lt}
use Rattle.std.proofs.Math.Nat.{mul_comm}
use Rattle.std.proofs.lemmas.Bool.{cases_order}
use Rattle.svn_lists.proofs.Orderings.{greater_from_nat_cmp, less_from_nat_cmp, nat_cmp_greater, nat_cmp_less}

pub digits_below : (b p r l q : ℕ) → q ≡ p * r → b < r → l < p → b * p + l < q
digits_below b p r l q is small below = subst (λ (n : ℕ). b * p + l < n) (mul_comm r p ∙ sym is) (digits_lt small below)

-- ---- the first digit

pub first_digit_below : (b c p l m : ℕ) → b < c → l < p → b * p + l < c * p + m
first_digit_below b c p l m below small = grind (arith, below, small)

pub first_digit_not_above : (b c p l m : ℕ) → c < b → m < p → b * p + l < c * p + m → ⊥
first_digit_not_above b c p l m above small below = grind (arith, above, small, below)

pub first_digit_same : (b c p l m : ℕ) → l < p → m < p → b * p + l ≡ c * p + m → b ≡ c
first_digit_same b c p l m small below e = elim (cases_order b c) [
  | inl same ↦ same
  | inr apart ↦ elim apart [
    | inl less ↦ let more : b * p + l < c * p + m = first_digit_below b c p l m less small in absurd (omega (arith, e))
    | inr less ↦ let more : c * p + m < b * p + l = first_digit_below c b p m l less below in absurd (omega (arith, e))
  ]
]

pub first_digit_zero : (c p l : ℕ) → l < p → 0 ≡ c * p + l → c ≡ 0
first_digit_zero c p l small e = by c refl
  where
    by : (d : ℕ) → d ≡ c → c ≡ 0
    by zero is = sym is
    by (suc d) is =
        let more : 0 * p + 0 < c * p + l = first_digit_below 0 c p 0 l (omega (arith, is)) (omega (arith, small)) in
        absurd (omega (arith, e))

pub first_digit_apart : (b c p l m : ℕ) → l < p → m < p → (b ≡ c → ⊥) → b * p + l ≡ c * p + m → ⊥
first_digit_apart b c p l m small below unlike e = unlike (first_digit_same b c p l m small below e)

-- ---- the last digit

pub last_digit_below : (b c p l m : ℕ) → b ≡ c → b * p + l < c * p + m → l < m
last_digit_below b c p l m same below = omega (arith, ap (λ d. d * p) same)

pub last_digit_same : (b c p l m : ℕ) → b ≡ c → b * p + l ≡ c * p + m → l ≡ m
last_digit_same b c p l m same e = omega (arith, ap (λ d. d * p) same)

pub last_digit_apart : (b c p l m : ℕ) → b ≡ c → (l ≡ m → ⊥) → b * p + l ≡ c * p + m → ⊥
last_digit_apart b c p l m same unlike e = unlike (last_digit_same b c p l m same e)

-- ---- their order

pub nat_cmp-first_digit : (b c p l m : ℕ) → l < p → m < p → (o : Ordering) → o ≡ nat_cmp b c → o ≢ Equal
    → o ≡ nat_cmp (b * p + l) (c * p + m)
nat_cmp-first_digit b c p l m small below Less e unlike =
    sym (nat_cmp_less (b * p + l) (c * p + m) (first_digit_below b c p l m (less_from_nat_cmp b c (sym e)) small))
nat_cmp-first_digit b c p l m small below Equal e unlike = absurd (unlike refl)
nat_cmp-first_digit b c p l m small below Greater e unlike =
    sym (nat_cmp_greater (b * p + l) (c * p + m) (first_digit_below c b p m l (greater_from_nat_cmp b c (sym e)) below))

pub nat_cmp-last_digit : (b c p l m : ℕ) → b ≡ c → nat_cmp l m ≡ nat_cmp (b * p + l) (c * p + m)
nat_cmp-last_digit b c p l m e = grind (arith, ap (λ d. d * p) e)

-- ---- three digits

pub digits_regroup : (b p q l m r : ℕ) → r ≡ p * q → b * r + (l * q + m) ≡ (b * p + l) * q + m
digits_regroup b p q l m r is = omega (arith, ap (λ x. b * x) is)
