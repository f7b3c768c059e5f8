-- Tokens, read as they were written.
use Rattle.std.proofs.Common.{◌≡◌, ℕ, ◌+◌, ◌<◌, ◌≤◌, ◌^◌, true, false, ◌&&◌, List, [], ◌∷◌, ◌++◌, length, length-append, drop, nat_eq, nat_lt, nat_le, Some, None, Ok, Err, refl, ap, ◌∙◌, append_assoc, arith, codes, decimal}
use Rattle.std.specs.List.{list_all, prefix_len, take_while}
use Rattle.std.proofs.lemmas.Bool.{and_parts, le-ltb}
use Rattle.std.proofs.lemmas.Bool.Decides.{nat_tests}
use Rattle.std.proofs.Math.Seq.{take-append_seam, drop-append_seam}
use Rattle.svn_digits.specs.Numbers.{is_digit, number_of}
use Rattle.svn_wire.specs.declared.fault.Malformed.TheVariants.{NumberTooLarge, WordTooLong}
use Rattle.svn_wire.specs.declared.fault.Stop.TheVariants.{Bad}
use Rattle.svn_wire.specs.declared.token.Token.TheVariants.{Open, Close, Number, Word, Text}
use Rattle.svn_wire.specs.Tokens.{is_space, is_letter, is_word_byte, ended, text_at, after_number, number_at, word_at, token_from, token_at, max_word}
use Rattle.svn_wire.specs.Writing.{number_bytes, word_bytes, text_bytes}
use Rattle.svn_wire.specs.Laws.{is_word, TokensAreReadBack}
use Rattle.svn_digits.proofs.Decimals.{Spells, spelled as digits_spelled, number_of_decimal}
use Rattle.svn_wire.proofs.Runs.{run_front, run_rest}

-- ---- the first byte

digit_is_no_space : (d : ℕ) → is_digit d ≡ true → is_space d ≡ false
digit_is_no_space d h = grind (arith, nat_tests)

digit_is_no_open : (d : ℕ) → is_digit d ≡ true → nat_eq d 40 ≡ false
digit_is_no_open d h = grind (arith, nat_tests)

digit_is_no_close : (d : ℕ) → is_digit d ≡ true → nat_eq d 41 ≡ false
digit_is_no_close d h = grind (arith, nat_tests)

letter_is_no_space : (d : ℕ) → is_letter d ≡ true → is_space d ≡ false
letter_is_no_space d h = grind (arith, nat_tests)

letter_is_no_open : (d : ℕ) → is_letter d ≡ true → nat_eq d 40 ≡ false
letter_is_no_open d h = grind (arith, nat_tests)

letter_is_no_close : (d : ℕ) → is_letter d ≡ true → nat_eq d 41 ≡ false
letter_is_no_close d h = grind (arith, nat_tests)

letter_is_no_digit : (d : ℕ) → is_letter d ≡ true → is_digit d ≡ false
letter_is_no_digit d h = grind (arith, nat_tests)

-- ---- numbers and strings

-- a digit begins a number
by_digit : (most d : ℕ) (bs : List ℕ) → is_digit d ≡ true → token_at most (d ∷ bs) ≡ number_at most (d ∷ bs)
unfolding token_from
by_digit most d bs first = rw (digit_is_no_space d first, digit_is_no_open d first, digit_is_no_close d first, first) refl

-- the run of digits, and what is after it
pub number_in : (most n : ℕ) (bytes digits rest : List ℕ) → take_while is_digit bytes ≡ digits → drop (prefix_len is_digit bytes) bytes ≡ rest
    → number_of digits ≡ Some n → number_at most bytes ≡ after_number most n rest
unfolding number_at
number_in most n bytes digits rest front back e = rw (front, back, e) refl

pub number_refused : (most : ℕ) (bytes digits : List ℕ) → take_while is_digit bytes ≡ digits → number_of digits ≡ None
    → number_at most bytes ≡ Err (Bad NumberTooLarge)
unfolding number_at
number_refused most bytes digits front e = rw (front, e) refl

-- digits, and what is after them
digits_again : (most n : ℕ) (digits : List ℕ) (b : ℕ) (rest : List ℕ) → Spells n digits → number_of digits ≡ Some n → is_digit b ≡ false
    → token_at most (digits ++ b ∷ rest) ≡ after_number most n (b ∷ rest)
digits_again most n [] b rest s e ends = absurd (omega (arith, s.some))
digits_again most n (d ∷ digits) b rest s e ends =
    by_digit most d (digits ++ b ∷ rest) (and_parts (is_digit d) (list_all is_digit digits) s.all_digits).0
    ∙ number_in most n (d ∷ digits ++ b ∷ rest) (d ∷ digits) (b ∷ rest) (run_front is_digit (d ∷ digits) b rest s.all_digits ends)
    (run_rest is_digit (d ∷ digits) b rest s.all_digits ends) e

number_again : (most n : ℕ) (rest : List ℕ) → n < 2 ^ 64 → token_at most (number_bytes n ++ rest) ≡ Ok (Number n, rest)
number_again most n rest small =
    ap (token_at most) (append_assoc (decimal n) (codes " ") rest)
    ∙ digits_again most n (decimal n) 32 rest (digits_spelled n small) (number_of_decimal n small) refl

string_again : (most : ℕ) (text rest : List ℕ) → length text ≤ most → text_at most (length text) (text ++ 32 ∷ rest) ≡ Ok (Text text, rest)
string_again most text rest h =
    let enough : nat_lt (length (text ++ 32 ∷ rest)) (length text) ≡ false =
    le-ltb (length (text ++ 32 ∷ rest)) (length text) (omega (arith, length-append text (32 ∷ rest))) in
    rw (le-ltb most (length text) h, enough, take-append_seam text (32 ∷ rest), drop-append_seam text (32 ∷ rest)) refl

text_again : (most : ℕ) (text rest : List ℕ) → length text ≤ most → length text < 2 ^ 64 → token_at most (text_bytes text ++ rest) ≡ Ok (Text text, rest)
text_again most text rest h small =
    let n = length text in
    let regrouped : text_bytes text ++ rest ≡ decimal n ++ 58 ∷ (text ++ 32 ∷ rest) =
    append_assoc (decimal n) (codes ":" ++ (text ++ codes " ")) rest
    ∙ ap (λ (l : List ℕ). decimal n ++ 58 ∷ l) (append_assoc text (codes " ") rest) in
    ap (token_at most) regrouped
    ∙ digits_again most n (decimal n) 58 (text ++ 32 ∷ rest) (digits_spelled n small) (number_of_decimal n small) refl
    ∙ string_again most text rest h

-- ---- words

-- a letter begins a word
by_letter : (most d : ℕ) (bs : List ℕ) → is_letter d ≡ true → token_at most (d ∷ bs) ≡ word_at (d ∷ bs)
unfolding token_from
by_letter most d bs first =
    rw (letter_is_no_space d first, letter_is_no_open d first, letter_is_no_close d first, letter_is_no_digit d first, first) refl

-- the run of a word's bytes, and what is after it
pub word_in : (bytes word rest : List ℕ) → take_while is_word_byte bytes ≡ word → drop (prefix_len is_word_byte bytes) bytes ≡ rest
    → nat_lt max_word (length word) ≡ false → word_at bytes ≡ ended (Word word) rest
unfolding word_at
word_in bytes word rest front back short = rw (front, back, short) refl

pub word_refused : (bytes word : List ℕ) → take_while is_word_byte bytes ≡ word → nat_lt max_word (length word) ≡ true
    → word_at bytes ≡ Err (Bad WordTooLong)
unfolding word_at
word_refused bytes word front long = rw (front, long) refl

letters_again : (most : ℕ) (word rest : List ℕ) → is_word word ≡ true → token_at most (word ++ 32 ∷ rest) ≡ Ok (Word word, rest)
letters_again most [] rest h = cc
letters_again most (b ∷ bs) rest h =
    let parts = and_parts (is_letter b && list_all is_word_byte bs) (nat_le (length bs) 23) h in
    let letters = and_parts (is_letter b) (list_all is_word_byte bs) parts.0 in
    let all : list_all is_word_byte (b ∷ bs) ≡ true = rw letters.0 letters.1 in
    let short : nat_lt max_word (length (b ∷ bs)) ≡ false = le-ltb 24 (length (b ∷ bs)) (omega (arith, short_of (length bs) parts.1)) in
    by_letter most b (bs ++ 32 ∷ rest) letters.0
    ∙ word_in (b ∷ bs ++ 32 ∷ rest) (b ∷ bs) (32 ∷ rest) (run_front is_word_byte (b ∷ bs) 32 rest all refl)
    (run_rest is_word_byte (b ∷ bs) 32 rest all refl) short
  where
    short_of : (n : ℕ) → nat_le n 23 ≡ true → n + 1 ≤ 24
    short_of n h = grind (arith, nat_tests)

word_again : (most : ℕ) (word rest : List ℕ) → is_word word ≡ true → token_at most (word_bytes word ++ rest) ≡ Ok (Word word, rest)
word_again most word rest h = ap (token_at most) (append_assoc word (codes " ") rest) ∙ letters_again most word rest h

-- ---- all

pub tokens_again : TokensAreReadBack
unfolding token_from
tokens_again most Open rest h = refl
tokens_again most Close rest h = refl
tokens_again most (Number n) rest h = number_again most n rest h
tokens_again most (Word word) rest h = word_again most word rest h
tokens_again most (Text text) rest h = text_again most text rest h.0 h.1
