-- Where a test splits a list, by the elements next to a position.
use Rattle.std.proofs.Common.{Bool, List, ap, arith, false, get_or, inl, inr, length, refl, suc, sym, true, true≢false, ℕ, ◌<◌, ◌∙◌, ◌≡◌}
use Rattle.std.proofs.Common.{◌≤◌, ◌⊎◌}
use Rattle.std.specs.List.Sorted.{IsPartitionPoint, IsPartitionedBy}
use Rattle.std.specs.Option.{option_map_or}
use Rattle.std.specs.Prelude.{Option, slice_get}
use Rattle.std.proofs.lemmas.Bool.{cases_lt}
use Rattle.std.proofs.lemmas.Option.{slice_get-get_or, slice_get_past}

module _ {X : Type 0} (p : X → Bool) (xs : List X) (parts : IsPartitionedBy p xs) where
  -- what is known of a position within the list is the test of the element there
  test_there : (i : ℕ) (d : X) → i < length xs → option_map_or p (slice_get xs i) false ≡ p (get_or xs i d)
  test_there i d l = ap (λ (o : Option X). option_map_or p o false) (slice_get-get_or xs i d l)

  -- where the test is known to hold there is an element
  within : (i : ℕ) → option_map_or p (slice_get xs i) false ≡ true → i < length xs
  within i h = by (cases_lt i (length xs))
    where
      by : (i < length xs) ⊎ (length xs ≤ i) → i < length xs
      by (inl l) = l
      by (inr past) = absurd (true≢false (sym h ∙ ap (λ (o : Option X). option_map_or p o false) (slice_get_past xs i past)))

  -- the test holds up to where it is known to hold
  holds_upto : (i : ℕ) → option_map_or p (slice_get xs i) false ≡ true → (k : ℕ) (d : X) → k ≤ i → p (get_or xs k d) ≡ true
  holds_upto i h k d le = parts k i d le (within i h) (sym (test_there i d (within i h)) ∙ h)

  -- and fails from where it is known to fail
  fails_from : (i : ℕ) → option_map_or p (slice_get xs i) false ≡ false → (k : ℕ) (d : X) → i ≤ k → k < length xs
      → p (get_or xs k d) ≡ false
  fails_from i h k d le l = by (p (get_or xs k d)) refl
    where
      i_within : i < length xs
      i_within = omega (arith, le, l)

      by : (b : Bool) → p (get_or xs k d) ≡ b → b ≡ false
      by true holds = sym (parts i k d le l holds) ∙ sym (test_there i d i_within) ∙ h
      by false fails = refl

  pub point_between : (before i : ℕ) → i ≡ suc before → option_map_or p (slice_get xs before) false ≡ true
      → option_map_or p (slice_get xs i) false ≡ false → IsPartitionPoint (λ x. p x ≡ true) (λ x. p x ≡ false) xs i
  point_between before i next t f =
      (λ k d from l. holds_upto before t k d (omega (arith, next, l)), λ k d from l. fails_from i f k d from l)
