-- The words after the name of a command, one word and the others.
use Rattle.std.proofs.Common.{◌≡◌, ℕ, List, [], ◌∷◌, option_map, refl}
use Rattle.svn_script.specs.Operands.{only_word, two_words, three_words}

pub two_words_of : (v : List ℕ) (words : List (List ℕ)) → two_words (v ∷ words) ≡ option_map (λ (w : List ℕ). (v, w)) (only_word words)
two_words_of v [] = refl
two_words_of v (w ∷ []) = refl
two_words_of v (w ∷ x ∷ words) = refl

pub three_words_of : (u : List ℕ) (words : List (List ℕ))
    → three_words (u ∷ words) ≡ option_map (λ (w : List ℕ × List ℕ). (u, w.0, w.1)) (two_words words)
three_words_of u [] = refl
three_words_of u (v ∷ []) = refl
three_words_of u (v ∷ w ∷ []) = refl
three_words_of u (v ∷ w ∷ x ∷ words) = refl
