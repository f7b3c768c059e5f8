-- The end of a line.
use Rattle.std.proofs.Common.{◌≡◌, ℕ, true, false, List, [], ◌∷◌, ◌++◌, nat_eq, refl, ap}
use Rattle.svn_script.specs.Reading.{without_return}

-- a carriage return at the end goes
pub without_return_end : (front : List ℕ) (b : ℕ) → nat_eq b 13 ≡ true → without_return (front ++ b ∷ []) ≡ front
without_return_end [] b e = rw e refl
without_return_end (x ∷ []) b e = ap (λ (l : List ℕ). x ∷ l) (without_return_end [] b e)
without_return_end (x ∷ y ∷ front) b e = ap (λ (l : List ℕ). x ∷ l) (without_return_end (y ∷ front) b e)

-- any other byte stays
pub without_return_other : (front : List ℕ) (b : ℕ) → nat_eq b 13 ≡ false → without_return (front ++ b ∷ []) ≡ front ++ b ∷ []
without_return_other [] b e = rw e refl
without_return_other (x ∷ []) b e = ap (λ (l : List ℕ). x ∷ l) (without_return_other [] b e)
without_return_other (x ∷ y ∷ front) b e = ap (λ (l : List ℕ). x ∷ l) (without_return_other (y ∷ front) b e)
