-- Lists of which what passes a test is written, or counted, one element after another.
use Rattle.std.proofs.Common.{◌≡◌, ℕ, ◌+◌, Bool, true, false, cond, List, [], ◌∷◌, ◌++◌, length, arith, refl}
use Rattle.std.specs.Prelude.{if◌then◌else◌}
use Rattle.std.specs.List.{filter, flat_map}

module _ {X : Type 0} (test : X → Bool) (x : X) (rest : List X) where
  pub one_written : (f : X → List ℕ)
      → flat_map f (filter test (x ∷ rest)) ≡ (if test x then f x else []) ++ flat_map f (filter test rest)
  one_written f =
      elim (test x) as (λ b. flat_map f (cond b (x ∷ filter test rest) (filter test rest)) ≡ (if b then f x else []) ++ flat_map f (filter test rest))
      [ true ↦ refl | false ↦ refl ]

  pub one_counted : length (filter test (x ∷ rest)) ≡ (if test x then 1 else 0) + length (filter test rest)
  one_counted =
      elim (test x) as (λ b. length (cond b (x ∷ filter test rest) (filter test rest)) ≡ (if b then 1 else 0) + length (filter test rest))
      [ true ↦ omega arith | false ↦ omega arith ]
