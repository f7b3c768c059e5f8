-- What the comparison of two numbers returns, and orderings one after the other.
use Rattle.std.proofs.Common.{ap, arith, false, inl, inr, refl, suc, sym, true, ℕ, ◌<◌, ◌∙◌, ◌≡◌, ◌≢◌, ◌≤◌}
use Rattle.std.specs.Cmp.{Equal-is}
use Rattle.std.specs.Ordering.{eq_by_cmp, is_eq, is_gt, is_lt, nat_cmp, ordering_index, ordering_reverse, ordering_then}
use Rattle.std.specs.Prelude.{nat_eq}
use Rattle.std.specs.declared.cmp.Ordering.{Ordering}
use Rattle.std.specs.declared.cmp.Ordering.TheVariants.{Equal, Greater, Less}
use Rattle.std.proofs.lemmas.Bool.{cases_eq, cond-false, cond-true, eq-eqb, false_from_ne_true, le-ltb, lt-ltb, ne_eqb}
use Rattle.std.proofs.lemmas.Bool.Decides.{nat_tests}
use Rattle.std.proofs.lemmas.Cmp.{nat_cmp_total, tied_itself}
use Rattle.std.proofs.lemmas.Map.Lookups.{exact_unsigned}

-- ---- two numbers

pub nat_cmp_less : (a b : ℕ) → a < b → nat_cmp a b ≡ Less
nat_cmp_less a b h = cond-true _ _ _ (lt-ltb a b h)

pub nat_cmp_equal : (a b : ℕ) → a ≡ b → nat_cmp a b ≡ Equal
nat_cmp_equal a b h = cond-false _ _ _ (le-ltb a b (omega arith)) ∙ cond-true _ _ _ (eq-eqb a b h)

pub nat_cmp_greater : (a b : ℕ) → b < a → nat_cmp a b ≡ Greater
nat_cmp_greater a b h = cond-false _ _ _ (le-ltb a b (omega arith)) ∙ cond-false _ _ _ (ne_eqb a b (λ e. omega arith))

pub less_from_nat_cmp : (a b : ℕ) → nat_cmp a b ≡ Less → a < b
less_from_nat_cmp a b h = grind (arith, nat_tests)

pub equal_from_nat_cmp : (a b : ℕ) → nat_cmp a b ≡ Equal → a ≡ b
equal_from_nat_cmp a b h = grind (arith, nat_tests)

pub greater_from_nat_cmp : (a b : ℕ) → nat_cmp a b ≡ Greater → b < a
greater_from_nat_cmp a b h = grind (arith, nat_tests)

-- numbers that differ aren't equal in their order
pub nat_cmp_unlike : (x y : ℕ) (o : Ordering) → o ≡ nat_cmp x y → (x ≡ y → ⊥) → o ≢ Equal
nat_cmp_unlike x y o is unlike equal = unlike (equal_from_nat_cmp x y (sym is ∙ equal))

pub nat_cmp-suc : (m n : ℕ) → nat_cmp m n ≡ nat_cmp (suc m) (suc n)
nat_cmp-suc m n = grind arith

pub nat_cmp-zero_suc : (n : ℕ) → nat_cmp 0 (suc n) ≡ Less
nat_cmp-zero_suc n = grind arith

pub nat_cmp-suc_zero : (n : ℕ) → nat_cmp (suc n) 0 ≡ Greater
nat_cmp-suc_zero n = grind arith

-- ---- the test of equality that an order makes

pub eq_by_cmp_apart : (q s : ℕ) → q ≢ s → eq_by_cmp nat_cmp q s ≡ false
eq_by_cmp_apart q s apart = false_from_ne_true (eq_by_cmp nat_cmp q s) (λ is. apart (exact_unsigned q s ((Equal-is (nat_cmp q s)).0 is)))

pub eq_by_cmp_same : (s : ℕ) → eq_by_cmp nat_cmp s s ≡ true
eq_by_cmp_same s = ap is_eq (tied_itself nat_cmp_total s)

-- both tests of two numbers agree
pub eq_by_cmp-nat_eq : (q x : ℕ) → eq_by_cmp nat_cmp q x ≡ nat_eq q x
eq_by_cmp-nat_eq q x = elim (cases_eq q x) [
  | inl is ↦ ap (λ (n : ℕ). eq_by_cmp nat_cmp q n) (sym is) ∙ eq_by_cmp_same q ∙ sym (eq-eqb q x is)
  | inr apart ↦ eq_by_cmp_apart q x apart ∙ sym (ne_eqb q x apart)
]

-- ---- orderings

pub less_from_is_lt : (o : Ordering) → is_lt o ≡ true → o ≡ Less
less_from_is_lt Less e = refl
less_from_is_lt Equal e = cc
less_from_is_lt Greater e = cc

pub equal_from_both_at_most : (o : Ordering) → is_gt o ≡ false → is_gt (ordering_reverse o) ≡ false → o ≡ Equal
equal_from_both_at_most Less h k = cc
equal_from_both_at_most Equal h k = refl
equal_from_both_at_most Greater h k = cc

pub less_from_index : (o p : Ordering) → ordering_index o ≤ ordering_index p → p ≡ Less → o ≡ Less
less_from_index Less p low is = refl
less_from_index Equal p low is = absurd (omega (arith, low, ap ordering_index is))
less_from_index Greater p low is = absurd (omega (arith, low, ap ordering_index is))

pub ordering_then-assoc : (r s t : Ordering) → ordering_then r (ordering_then s t) ≡ ordering_then (ordering_then r s) t
ordering_then-assoc Less s t = refl
ordering_then-assoc Equal s t = refl
ordering_then-assoc Greater s t = refl

-- the first comparison decides, and after equal ones the second
pub ordering_then_less : (o : Ordering) (b c : ℕ) (r : Ordering) → o ≡ nat_cmp b c → (b ≡ c → r ≡ Less) → (c < b → ⊥)
    → ordering_then o r ≡ Less
ordering_then_less Less b c r e same above = refl
ordering_then_less Equal b c r e same above = same (equal_from_nat_cmp b c (sym e))
ordering_then_less Greater b c r e same above = absurd (above (greater_from_nat_cmp b c (sym e)))
