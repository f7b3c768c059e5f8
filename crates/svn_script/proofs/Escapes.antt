-- Words with escapes: the bytes before the first percent sign, what is from there on, and the byte of two digits.
use Rattle.std.proofs.Common.{◌≡◌, ℕ, zero, suc, ◌+◌, ◌*◌, ◌<◌, ◌≤◌, Bool, false, not, List, [], ◌∷◌, ◌++◌, length, take, drop}
use Rattle.std.proofs.Common.{get_or, refl, ap, ◌∙◌, arith, Some, None, Option, option_map, nat_eq, nat_lt, bytes_eq, append_assoc}
use Rattle.std.specs.List.{position, position_or_len, prefix_len}
use Rattle.std.proofs.lemmas.Bool.{not-true, eqb-true, ltb-false}
use Rattle.std.proofs.lemmas.List.{append-nil, take_all, drop_all, drop_more}
use Rattle.std.proofs.lemmas.List.Quantifiers.{position-Some}
use Rattle.std.proofs.lemmas.List.Sums.{prefix_len_passes}
use Rattle.std.specs.Prelude.{Result, Ok, Err, option_and_then}
use Rattle.hex.specs.declared.error.FromHexError.{FromHexError}
use Rattle.hex.specs.Hex.{hex_digit_value, digit_or_error, decode_pairs, ◌>>=◌}
use Rattle.svn_lists.proofs.Options.{cond_none}
use Rattle.svn_script.specs.Reading.{unescaped, onto, bytes_of, hex_byte}

-- ---- bytes without escapes

-- a byte but for the percent sign does
unescaped_plain : (b : ℕ) (bs : List ℕ) → nat_eq b 37 ≡ false → unescaped (b ∷ bs) ≡ onto (Some b) (unescaped bs)
unescaped_plain b [] e = rw e refl
unescaped_plain b (c ∷ []) e = rw e refl
unescaped_plain b (c ∷ d ∷ bs) e = rw e refl

none_in_front : (rest : Option (List ℕ)) → rest ≡ option_map (λ (bs : List ℕ). [] ++ bs) rest
none_in_front None = refl
none_in_front (Some bs) = refl

one_in_front : (b : ℕ) (front : List ℕ) (rest : Option (List ℕ))
    → onto (Some b) (option_map (λ (bs : List ℕ). front ++ bs) rest) ≡ option_map (λ (bs : List ℕ). (b ∷ front) ++ bs) rest
one_in_front b front None = refl
one_in_front b front (Some bs) = refl

-- so do several
unescaped_run : (n : ℕ) (word : List ℕ) → n ≤ length word → ((k : ℕ) → k < n → nat_eq (get_or word k 0) 37 ≡ false)
    → unescaped word ≡ option_map (λ (bs : List ℕ). take n word ++ bs) (unescaped (drop n word))
unescaped_run zero word fits plain = none_in_front (unescaped word)
unescaped_run (suc n) [] fits plain = absurd (omega (arith, fits))
unescaped_run (suc n) (b ∷ word) fits plain =
    unescaped_plain b word (plain 0 (omega arith))
    ∙ ap (onto (Some b)) (unescaped_run n word (omega (arith, fits)) (λ k less. plain (suc k) (omega (arith, less))))
    ∙ one_in_front b (take n word) (unescaped (drop n word))

-- ---- words without an escape

pub unescaped_whole : (word : List ℕ) → position (λ b. nat_eq b 37) word ≡ None → unescaped word ≡ Some word
unescaped_whole word none =
    let p : ℕ → Bool = λ b. nat_eq b 37 in
    let at = position_or_len p word in
    let all : length word ≤ prefix_len (λ b. not (p b)) word =
    ltb-false at (length word) (cond_none (nat_lt at (length word)) at None none).0 in
    let plain : (k : ℕ) → k < length word → p (get_or word k 0) ≡ false =
    λ k less. not-true (p (get_or word k 0)) (prefix_len_passes (λ b. not (p b)) word k 0 (omega (arith, all, less))) in
    unescaped_run (length word) word (omega arith) plain
    ∙ ap (λ (rest : List ℕ). option_map (λ (bs : List ℕ). take (length word) word ++ bs) (unescaped rest))
    (drop_all (length word) word (omega arith))
    ∙ ap Some (append-nil (take (length word) word) ∙ take_all (length word) word (omega arith))

-- a word of bytes alone, but for the word of none
pub plain_word : (word : List ℕ) → bytes_eq word (34 ∷ 34 ∷ []) ≡ false → position (λ b. nat_eq b 37) word ≡ None
    → bytes_of word ≡ Some word
plain_word word other none = rw other (unescaped_whole word none)

-- ---- words with one

at_escape : (word : List ℕ) (n : ℕ) → position (λ b. nat_eq b 37) word ≡ Some n
    → unescaped word ≡ option_map (λ (bs : List ℕ). take n word ++ bs) (unescaped (37 ∷ drop (n + 1) word))
at_escape word n e =
    let facts = position-Some (λ b. nat_eq b 37) word n 0 e in
    unescaped_run n word (omega (arith, facts.0)) facts.2
    ∙ ap (λ (rest : List ℕ). option_map (λ (bs : List ℕ). take n word ++ bs) (unescaped rest))
    (drop_more word n 0 facts.0 ∙ ap (λ (b : ℕ). b ∷ drop (n + 1) word) (eqb-true (get_or word n 0) 37 facts.1))

-- the bytes before the first escape, and what is from there on
pub unescaped_at : (word run behind : List ℕ)
    → (n : ℕ) × (position (λ b. nat_eq b 37) word ≡ Some n) × (run ≡ take n word) × (behind ≡ drop (n + 1) word)
    → unescaped word ≡ option_map (λ (bs : List ℕ). run ++ bs) (unescaped (37 ∷ behind))
unescaped_at word run behind cut = rw (cut.2, cut.3) (at_escape word cut.0 cut.1)

-- bytes that were read, those before an escape, and its byte
pub one_more_escape : (front run : List ℕ) (b : ℕ) (rest : Option (List ℕ))
    → option_map (λ (bs : List ℕ). (front ++ (run ++ b ∷ [])) ++ bs) rest
    ≡ option_map (λ (bs : List ℕ). front ++ bs) (option_map (λ (bs : List ℕ). run ++ bs) (onto (Some b) rest))
one_more_escape front run b None = refl
one_more_escape front run b (Some bs) = simp append_assoc

-- ---- the byte of two digits

abbrev pub byte_in : Result (List ℕ) FromHexError → Option ℕ
byte_in (Ok bytes) = Some (get_or bytes 0 0)
byte_in (Err e) = None

pub two_digits : (high low : ℕ) → byte_in (decode_pairs 0 (high ∷ low ∷ [])) ≡ hex_byte high low
unfolding decode_pairs
two_digits high low = by (hex_digit_value high) (hex_digit_value low)
  where
    by : (h l : Option ℕ)
        → byte_in ((digit_or_error high 0 h >>= (λ a. digit_or_error low 1 l >>= (λ b. Ok (a * 16 + b)))) >>= (λ byte. Ok (byte ∷ [])))
        ≡ option_and_then (λ a. option_map (λ b. a * 16 + b) l) h
    by (Some a) (Some b) = refl
    by (Some a) None = refl
    by None l = refl
