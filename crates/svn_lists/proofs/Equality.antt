-- What is equal, tests of equality, and that of lists of bytes.
use Rattle.std.proofs.Common.{Bool, List, ap, false, refl, subst, sym, true, ℕ, ◌∙◌, ◌≡◌}
use Rattle.std.specs.Cmp.Lexicographic.{bytes_decides}
use Rattle.std.specs.Prelude.{bytes_eq}

-- what holds of a value holds of an equal one
pub holds_of_equal : {A : Type 0} (P : A → Type 0) (old new : A) → new ≡ old → P old → P new
holds_of_equal P old new same h = subst P (sym same) h

-- a test that holds of what is the same alone holds either way round
pub eq-symm : {X : Type 0} (eq : X → X → Bool) → ((m n : X) → eq m n ≡ true → m ≡ n) → ((m : X) → eq m m ≡ true)
    → (m n : X) → eq m n ≡ eq n m
eq-symm eq same own m n = by (eq m n) (eq n m) refl refl
  where
    by : (a b : Bool) → eq m n ≡ a → eq n m ≡ b → a ≡ b
    by true true p q = refl
    by false false p q = refl
    by true false p q = sym (own n) ∙ ap (λ x. eq n x) (sym (same m n p)) ∙ q
    by false true p q = sym (sym (own m) ∙ ap (λ x. eq m x) (sym (same n m q)) ∙ p)

pub same_bytes : (m n : List ℕ) → bytes_eq m n ≡ true → m ≡ n
same_bytes m n h = (bytes_decides m n).0 h

pub bytes_eq-same : (m : List ℕ) → bytes_eq m m ≡ true
bytes_eq-same m = (bytes_decides m m).1 refl

pub bytes_eq-symm : (m n : List ℕ) → bytes_eq m n ≡ bytes_eq n m
bytes_eq-symm = eq-symm bytes_eq same_bytes bytes_eq-same
