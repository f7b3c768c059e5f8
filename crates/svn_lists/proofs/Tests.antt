-- Truth values, and what tests on numbers say.
use Rattle.std.proofs.Common.{Bool, arith, false, inl, inr, max, refl, sym, true, true≢false, ℕ, ◌||◌, ◌∙◌, ◌≡◌}
use Rattle.std.specs.Cmp.{both_ways}
use Rattle.std.specs.Prelude.{nat_eq, nat_le}
use Rattle.std.proofs.lemmas.Bool.{cases_lt, eq-eqb, le-leb, lt-leb}

-- ---- truth values

-- a test that contradicts itself where it holds
pub false_from_clash : (b : Bool) → (b ≡ true → true ≡ false) → b ≡ false
false_from_clash true h = h refl
false_from_clash false h = refl

-- anything follows from a test that both holds and doesn't
pub any_from_clash : {A : Type 0} → false ≡ true → A
any_from_clash e = absurd (true≢false (sym e))

-- where a test of two holds and the second doesn't, the first does
pub or_first : (x y : Bool) → (x || y) ≡ true → y ≡ false → x ≡ true
or_first true y e f = refl
or_first false y e f = absurd (true≢false (sym e ∙ f))

-- two tests of one thing
pub same_tests : (P : Type 0) (r t : Bool) → (r ≡ true → P) → (P → r ≡ true) → (t ≡ true → P) → (P → t ≡ true) → r ≡ t
same_tests P r t f g h k = both_ways r t (λ e. k (f e)) (λ e. g (h e))

-- ---- numbers

pub nat_eq-same : (n : ℕ) → nat_eq n n ≡ true
nat_eq-same n = eq-eqb n n refl

pub nat_le-max : (j a b : ℕ) → nat_le j (max a b) ≡ (nat_le j a || nat_le j b)
nat_le-max j a b = elim (cases_lt a j) [
  | inl left ↦ elim (cases_lt b j) [
    | inl right ↦ rw (lt-leb j a left, lt-leb j b right) (lt-leb j (max a b) (omega arith))
    | inr right ↦ rw (lt-leb j a left, le-leb j b right) (le-leb j (max a b) (omega arith))
  ]
  | inr left ↦ rw (le-leb j a left) (le-leb j (max a b) (omega arith))
]
