-- What is written piece after piece.
use Rattle.std.proofs.Common.{◌≡◌, ℕ, List, ◌++◌, append_assoc, ap, ◌∙◌}

-- one piece, and then another
pub then_appended : (old a b mid new : List ℕ) → mid ≡ old ++ a → new ≡ mid ++ b → new ≡ old ++ (a ++ b)
then_appended old a b mid new e f = f ∙ ap (λ (l : List ℕ). l ++ b) e ∙ append_assoc old a b

-- four pieces
pub four_appended : (old a b c d after_a after_b after_c new : List ℕ) → after_a ≡ old ++ a → after_b ≡ after_a ++ b → after_c ≡ after_b ++ c
    → new ≡ after_c ++ d → new ≡ old ++ (((a ++ b) ++ c) ++ d)
four_appended old a b c d after_a after_b after_c new e f g h =
    then_appended old ((a ++ b) ++ c) d after_c new
    (then_appended old (a ++ b) c after_b after_c (then_appended old a b after_a after_b e f) g) h

-- the same piece, by another name
pub same_piece : (old new a b : List ℕ) → new ≡ old ++ a → a ≡ b → new ≡ old ++ b
same_piece old new a b e same = e ∙ ap (λ (l : List ℕ). old ++ l) same
