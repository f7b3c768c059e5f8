-- The bytes of a question.
use Rattle.std.proofs.Common.{◌≡◌, ℕ, ◌+◌, ◌-◌, List, [], ◌∷◌, ◌++◌, length, codes, decimal, refl, ap, ◌∙◌, arith, length-append, append_assoc}
use Rattle.std.specs.List.{flat_map}
use Rattle.std.proofs.lemmas.Grind.{flat_map-append}
use Rattle.svn_types.specs.Names.{Path}
use Rattle.svn_types.specs.PathTexts.{path_text}
use Rattle.svn_types.specs.PathKeys.{path_key}
use Rattle.svn_wire.specs.declared.token.Token.{Token}
use Rattle.svn_wire.specs.declared.token.Token.TheVariants.{Close}
use Rattle.svn_wire.specs.Writing.{number_bytes, word_bytes, text_bytes, spelled, printed}
use Rattle.svn_ask.specs.Questions.{command_at, command_bytes}

below_len : (p : Path) → length (flat_map (λ m. 47 ∷ m) p) ≡ length (path_key p)
below_len [] = refl
below_len (n ∷ p) = omega (arith, length-append (47 ∷ n) (flat_map (λ m. 47 ∷ m) p), length-append n (1 ∷ path_key p), below_len p)

-- the text of a path has a byte less than its key
pub path_len : (p : Path) → length (path_key p) - 1 ≡ length (path_text p)
path_len [] = refl
path_len (n ∷ p) = omega (arith, length-append n (flat_map (λ m. 47 ∷ m) p), length-append n (1 ∷ path_key p), below_len p)

parts : (a n b t c d f m e : List ℕ) → a ++ (n ++ (b ++ (t ++ (c ++ (d ++ (f ++ (m ++ e))))))) ≡ (a ++ n ++ b) ++ t ++ (c ++ d ++ f) ++ m ++ e
parts a n b t c d f m e = simp append_assoc

parts_len : (a n b t c d f m e : List ℕ) → length ((a ++ n ++ b) ++ t ++ (c ++ d ++ f) ++ m ++ e)
    ≡ length a + length n + length b + length t + length c + length d + length f + length m + length e
parts_len a n b t c d f m e = simp length-append (omega arith)

-- a command as bytes
pub as_bytes : (name : List ℕ) (rev : ℕ) (path : Path) (more : List Token)
    → printed (command_at name rev path more) ≡ command_bytes name rev path (printed more)
unfolding command_bytes
as_bytes name rev path more =
    let end : printed (more ++ (Close ∷ Close ∷ [])) ≡ printed more ++ codes ") ) " = flat_map-append spelled more (Close ∷ Close ∷ []) in
    ap (λ (l : List ℕ). codes "( " ++ (word_bytes name ++ (codes "( " ++ (text_bytes (path_text path) ++ (codes "( " ++ (number_bytes rev ++ (codes ") " ++ l))))))) end
    ∙ parts (codes "( ") (word_bytes name) (codes "( ") (text_bytes (path_text path)) (codes "( ") (number_bytes rev) (codes ") ") (printed more) (codes ") ) ")

-- how many bytes it has
pub command_len : (name : List ℕ) (rev : ℕ) (path : Path) (more : List Token)
    → length (printed (command_at name rev path more))
    ≡ length name + (length (decimal (length (path_text path))) + length (path_text path) + length (decimal rev)) + length (printed more) + 16
unfolding command_bytes
command_len name rev path more =
    let text = path_text path in
    let whole = ap (λ (l : List ℕ). length l) (as_bytes name rev path more) in
    let sum = parts_len (codes "( ") (word_bytes name) (codes "( ") (text_bytes text) (codes "( ") (number_bytes rev) (codes ") ") (printed more) (codes ") ) ") in
    let of_text : length (text_bytes text) ≡ length (decimal (length text)) + length text + 2 =
    omega (arith, length-append (decimal (length text)) (codes ":" ++ (text ++ codes " ")), length-append text (codes " ")) in
    whole ∙ sum ∙ omega (arith, of_text, length-append name (codes " "), length-append (decimal rev) (codes " "))

-- the parts of a command are put at the end of the bytes, one after the other
pub appended : (name : List ℕ) (rev : ℕ) (path : Path) (more out a b c d e : List ℕ) → a ≡ out ++ (codes "( " ++ word_bytes name ++ codes "( ")
    → b ≡ a ++ text_bytes (path_text path) → c ≡ b ++ (codes "( " ++ number_bytes rev ++ codes ") ") → d ≡ c ++ more → e ≡ d ++ codes ") ) "
    → e ≡ out ++ command_bytes name rev path more
unfolding command_bytes
appended name rev path more out a b c d e h1 h2 h3 h4 h5 = rw (h5, h4, h3, h2, h1) (simp append_assoc)
