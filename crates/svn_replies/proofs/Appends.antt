-- What is written piece after piece.
use Rattle.std.proofs.Common.{◌≡◌, ℕ, List, ◌++◌, append_assoc, ap, ◌∙◌}

-- three pieces
pub three_appended : (old a b c after_a after_b new : List ℕ) → after_a ≡ old ++ a → after_b ≡ after_a ++ b → new ≡ after_b ++ c
    → new ≡ old ++ (a ++ (b ++ c))
three_appended old a b c after_a after_b new e f g =
    g ∙ ap (λ (l : List ℕ). l ++ c) (f ∙ ap (λ (l : List ℕ). l ++ b) e) ∙ ap (λ (l : List ℕ). l ++ c) (append_assoc old a b) ∙ append_assoc old (a ++ b) c
    ∙ ap (λ (l : List ℕ). old ++ l) (append_assoc a b c)

-- what a file is told as, piece after piece
file_joined : (old a b c d e f g : List ℕ) → (((((((old ++ a) ++ b) ++ c) ++ d) ++ e) ++ f) ++ g)
    ≡ old ++ (a ++ ((b ++ (c ++ (d ++ (e ++ f)))) ++ g))
file_joined old a b c d e f g = simp append_assoc

pub file_appended : (old a b c d e f g m1 m2 m3 m4 m5 m6 m7 : List ℕ) → m1 ≡ old ++ a → m2 ≡ m1 ++ b → m3 ≡ m2 ++ c → m4 ≡ m3 ++ d → m5 ≡ m4 ++ e
    → m6 ≡ m5 ++ f → m7 ≡ m6 ++ g → m7 ≡ old ++ (a ++ ((b ++ (c ++ (d ++ (e ++ f)))) ++ g))
file_appended old a b c d e f g m1 m2 m3 m4 m5 m6 m7 e1 e2 e3 e4 e5 e6 e7 =
    e7 ∙ ap (λ (l : List ℕ). l ++ g) (e6 ∙ ap (λ (l : List ℕ). l ++ f) (e5 ∙ ap (λ (l : List ℕ). l ++ e) (e4
    ∙ ap (λ (l : List ℕ). l ++ d) (e3 ∙ ap (λ (l : List ℕ). l ++ c) (e2 ∙ ap (λ (l : List ℕ). l ++ b) e1)))))
    ∙ file_joined old a b c d e f g

-- the same of a directory
directory_joined : (old a b c d e f g h i : List ℕ) → (((((((((old ++ a) ++ b) ++ c) ++ d) ++ e) ++ f) ++ g) ++ h) ++ i)
    ≡ old ++ (a ++ ((b ++ ((c ++ (d ++ e)) ++ (f ++ (g ++ h)))) ++ i))
directory_joined old a b c d e f g h i = simp append_assoc

pub directory_appended : (old a b c d e f g h i m1 m2 m3 m4 m5 m6 m7 m8 m9 : List ℕ) → m1 ≡ old ++ a → m2 ≡ m1 ++ b → m3 ≡ m2 ++ c → m4 ≡ m3 ++ d
    → m5 ≡ m4 ++ e → m6 ≡ m5 ++ f → m7 ≡ m6 ++ g → m8 ≡ m7 ++ h → m9 ≡ m8 ++ i
    → m9 ≡ old ++ (a ++ ((b ++ ((c ++ (d ++ e)) ++ (f ++ (g ++ h)))) ++ i))
directory_appended old a b c d e f g h i m1 m2 m3 m4 m5 m6 m7 m8 m9 e1 e2 e3 e4 e5 e6 e7 e8 e9 =
    e9 ∙ ap (λ (l : List ℕ). l ++ i) (e8 ∙ ap (λ (l : List ℕ). l ++ h) (e7 ∙ ap (λ (l : List ℕ). l ++ g) (e6 ∙ ap (λ (l : List ℕ). l ++ f) (e5
    ∙ ap (λ (l : List ℕ). l ++ e) (e4 ∙ ap (λ (l : List ℕ). l ++ d) (e3 ∙ ap (λ (l : List ℕ). l ++ c) (e2 ∙ ap (λ (l : List ℕ). l ++ b) e1)))))))
    ∙ directory_joined old a b c d e f g h i
