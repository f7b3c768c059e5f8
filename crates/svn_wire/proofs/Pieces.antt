-- Bytes that come later.
use Rattle.std.proofs.Common.{◌≡◌, ◌⊎◌, inl, inr, ⊎_elim, ℕ, zero, suc, ◌<◌, ◌≤◌, Bool, true, false, cond, List, [], ◌∷◌, ◌++◌, length, length-append, take, drop, nat_eq, nat_lt, Option, Some, None, Result, Ok, Err, refl, sym, ap, ◌∙◌, arith}
use Rattle.std.specs.List.{prefix_len, take_while}
use Rattle.std.proofs.lemmas.Bool.{lt-ltb, le-ltb, ltb-false, ltb-true}
use Rattle.std.proofs.lemmas.List.{take-append-le, drop-append-le}
use Rattle.std.proofs.lemmas.List.Sums.{prefix_len-le-length}
use Rattle.svn_digits.specs.Numbers.{is_digit, number_of}
use Rattle.svn_wire.specs.declared.fault.Malformed.TheVariants.{NoSpace, NumberTooLarge, WordTooLong}
use Rattle.svn_wire.specs.declared.fault.Stop.{Stop}
use Rattle.svn_wire.specs.declared.fault.Stop.TheVariants.{More, Bad}
use Rattle.svn_wire.specs.declared.item.Limits.{Limits}
use Rattle.svn_wire.specs.declared.token.Token.{Token}
use Rattle.svn_wire.specs.declared.token.Token.TheVariants.{Open, Close, Number, Word, Text}
use Rattle.svn_wire.specs.Tokens.{is_space, is_letter, is_word_byte, ended, text_at, after_number, number_at, word_at, token_from, token_at, max_word}
use Rattle.svn_wire.specs.Items.{next_level, with_front, tokens_at}
use Rattle.svn_wire.specs.Laws.{with_more, PiecesChangeNothing}
use Rattle.svn_wire.proofs.Runs.{run_within, run_whole, all_in_run}
use Rattle.std.proofs.Math.Seq.{take-length, drop-length, take-append-add}
use Rattle.svn_wire.proofs.TokenReads.{number_in, number_refused, word_in, word_refused}
use Rattle.svn_digits.proofs.LargeNumbers.{stays_large}

-- a reading of some bytes, and that of the same with more after them
abbrev Settled : {A : Type 0} → Result (A × List ℕ) Stop → Result (A × List ℕ) Stop → List ℕ → Type 0
Settled now then more = (now ≡ Err More) ⊎ (then ≡ with_more more now)

ended_settled : (t : Token) (bytes more : List ℕ) → Settled (ended t bytes) (ended t (bytes ++ more)) more
ended_settled t [] more = inl refl
ended_settled t (b ∷ bs) more = inr (by_test (is_space b))
  where
    by_test : (c : Bool) → cond c (Ok (t, bs ++ more)) (Err (Bad NoSpace)) ≡ with_more more (cond c (Ok (t, bs)) (Err (Bad NoSpace)))
    by_test true = refl
    by_test false = refl

text_settled : (most len : ℕ) (bytes more : List ℕ) → Settled (text_at most len bytes) (text_at most len (bytes ++ more)) more
text_settled most len bytes more = by_tests (nat_lt most len) (nat_lt (length bytes) len) refl refl
  where
    by_tests : (c d : Bool) → nat_lt most len ≡ c → nat_lt (length bytes) len ≡ d
        → Settled (text_at most len bytes) (text_at most len (bytes ++ more)) more
    by_tests true d e f = inr (rw e refl)
    by_tests false true e f = inl (rw (e, f) refl)
    by_tests false false e f =
        let long = ltb-false (length bytes) len f in
        let longer : nat_lt (length (bytes ++ more)) len ≡ false = le-ltb (length (bytes ++ more)) len (omega (arith, long, length-append bytes more)) in
        ⊎_elim
        (λ h. inl (rw (e, f) h))
        (λ h. inr (rw (e, f, longer, take-append-le len bytes more long, drop-append-le len bytes more long) h))
        (ended_settled (Text (take len bytes)) (drop len bytes) more)

after_number_settled : (most n : ℕ) (bytes more : List ℕ) → Settled (after_number most n bytes) (after_number most n (bytes ++ more)) more
after_number_settled most n [] more = inl refl
after_number_settled most n (b ∷ bs) more = by_test (nat_eq b 58) refl
  where
    by_test : (c : Bool) → nat_eq b 58 ≡ c → Settled (after_number most n (b ∷ bs)) (after_number most n (b ∷ bs ++ more)) more
    by_test true e = ⊎_elim (λ h. inl (rw e h)) (λ h. inr (rw e h)) (text_settled most n bs more)
    by_test false e = ⊎_elim (λ h. inl (rw e h)) (λ h. inr (rw e h)) (ended_settled (Number n) (b ∷ bs) more)

-- a run ends within the bytes, or is all of them
pub run_ends : (p : ℕ → Bool) (bytes : List ℕ) → (prefix_len p bytes < length bytes) ⊎ (prefix_len p bytes ≡ length bytes)
run_ends p bytes = by_test (nat_lt (prefix_len p bytes) (length bytes)) refl
  where
    by_test : (c : Bool) → nat_lt (prefix_len p bytes) (length bytes) ≡ c → (prefix_len p bytes < length bytes) ⊎ (prefix_len p bytes ≡ length bytes)
    by_test true e = inl (ltb-true (prefix_len p bytes) (length bytes) e)
    by_test false e = inr (omega (arith, ltb-false (prefix_len p bytes) (length bytes) e, prefix_len-le-length p bytes))

-- an end within the bytes
pub within : (p : ℕ → Bool) (bytes more : List ℕ) → prefix_len p bytes < length bytes
    → (prefix_len p (bytes ++ more) ≡ prefix_len p bytes) × (take_while p (bytes ++ more) ≡ take_while p bytes)
    × (drop (prefix_len p (bytes ++ more)) (bytes ++ more) ≡ drop (prefix_len p bytes) bytes ++ more)
within p bytes more h =
    let same = run_within p bytes more h in
    let less : prefix_len p bytes ≤ length bytes = omega (arith, h) in
    (same, rw same (take-append-le (prefix_len p bytes) bytes more less), rw same (drop-append-le (prefix_len p bytes) bytes more less))

number_within : (most : ℕ) (bytes more : List ℕ) (o : Option ℕ) → number_of (take_while is_digit bytes) ≡ o → prefix_len is_digit bytes < length bytes
    → Settled (number_at most bytes) (number_at most (bytes ++ more)) more
unfolding number_at
number_within most bytes more None e h =
    let parts = within is_digit bytes more h in
    inr (rw (parts.1, parts.2, e) refl)
number_within most bytes more (Some n) e h =
    let parts = within is_digit bytes more h in
    ⊎_elim (λ k. inl (rw e k)) (λ k. inr (rw (parts.1, parts.2, e) k)) (after_number_settled most n (drop (prefix_len is_digit bytes) bytes) more)

-- the run of all bytes
pub whole_run : (p : ℕ → Bool) (bytes : List ℕ) → prefix_len p bytes ≡ length bytes → (take_while p bytes ≡ bytes) × (drop (prefix_len p bytes) bytes ≡ [])
whole_run p bytes h = (rw h (take-length bytes), rw h (drop-length bytes))

longer_run : (p : ℕ → Bool) (bytes more : List ℕ) → prefix_len p bytes ≡ length bytes → take_while p (bytes ++ more) ≡ bytes ++ take_while p more
longer_run p bytes more h = rw (run_whole p bytes more (all_in_run p bytes h)) (take-append-add bytes more (prefix_len p more))

number_whole : (most b : ℕ) (bs more : List ℕ) (o : Option ℕ) → number_of (b ∷ bs) ≡ o → prefix_len is_digit (b ∷ bs) ≡ length (b ∷ bs)
    → Settled (number_at most (b ∷ bs)) (number_at most (b ∷ bs ++ more)) more
number_whole most b bs more None e h =
    let run = whole_run is_digit (b ∷ bs) h in
    let now : number_at most (b ∷ bs) ≡ Err (Bad NumberTooLarge) = number_refused most (b ∷ bs) (b ∷ bs) run.0 e in
    let then : number_at most (b ∷ bs ++ more) ≡ Err (Bad NumberTooLarge) =
    number_refused most (b ∷ bs ++ more) (b ∷ bs ++ take_while is_digit more) (longer_run is_digit (b ∷ bs) more h)
    (stays_large b bs (take_while is_digit more) e) in
    inr (then ∙ sym (ap (with_more more) now))
number_whole most b bs more (Some n) e h =
    let run = whole_run is_digit (b ∷ bs) h in
    inl (number_in most n (b ∷ bs) (b ∷ bs) [] run.0 run.1 e)

number_settled : (most b : ℕ) (bs more : List ℕ) → Settled (number_at most (b ∷ bs)) (number_at most (b ∷ bs ++ more)) more
number_settled most b bs more =
    ⊎_elim
    (λ h. number_within most (b ∷ bs) more (number_of (take_while is_digit (b ∷ bs))) refl h)
    (λ h. number_whole most b bs more (number_of (b ∷ bs)) refl h)
    (run_ends is_digit (b ∷ bs))

word_within : (bytes more : List ℕ) (c : Bool) → nat_lt max_word (length (take_while is_word_byte bytes)) ≡ c
    → prefix_len is_word_byte bytes < length bytes → Settled (word_at bytes) (word_at (bytes ++ more)) more
unfolding word_at
word_within bytes more true e h =
    let parts = within is_word_byte bytes more h in
    inr (rw (parts.1, e) refl)
word_within bytes more false e h =
    let parts = within is_word_byte bytes more h in
    ⊎_elim (λ k. inl (rw e k)) (λ k. inr (rw (parts.1, parts.2, e) k))
    (ended_settled (Word (take_while is_word_byte bytes)) (drop (prefix_len is_word_byte bytes) bytes) more)

word_whole : (bytes more : List ℕ) (c : Bool) → nat_lt max_word (length bytes) ≡ c → prefix_len is_word_byte bytes ≡ length bytes
    → Settled (word_at bytes) (word_at (bytes ++ more)) more
word_whole bytes more true e h =
    let run = whole_run is_word_byte bytes h in
    let word = bytes ++ take_while is_word_byte more in
    let long : nat_lt max_word (length word) ≡ true =
    lt-ltb 24 (length word) (omega (arith, ltb-true 24 (length bytes) e, length-append bytes (take_while is_word_byte more))) in
    let now : word_at bytes ≡ Err (Bad WordTooLong) = word_refused bytes bytes run.0 e in
    let then : word_at (bytes ++ more) ≡ Err (Bad WordTooLong) = word_refused (bytes ++ more) word (longer_run is_word_byte bytes more h) long in
    inr (then ∙ sym (ap (with_more more) now))
word_whole bytes more false e h =
    let run = whole_run is_word_byte bytes h in
    inl (word_in bytes bytes [] run.0 run.1 e)

word_settled : (b : ℕ) (bs more : List ℕ) → Settled (word_at (b ∷ bs)) (word_at (b ∷ bs ++ more)) more
word_settled b bs more =
    ⊎_elim
    (λ h. word_within (b ∷ bs) more (nat_lt max_word (length (take_while is_word_byte (b ∷ bs)))) refl h)
    (λ h. word_whole (b ∷ bs) more (nat_lt max_word (length (b ∷ bs))) refl h)
    (run_ends is_word_byte (b ∷ bs))

from_settled : (most : ℕ) (bytes more : List ℕ) → Settled (token_from most bytes) (token_from most (bytes ++ more)) more
unfolding token_from
from_settled most [] more = inl refl
from_settled most (b ∷ bs) more = by_tests (nat_eq b 40) (nat_eq b 41) (is_digit b) (is_letter b) refl refl refl refl
  where
    by_tests : (o c d l : Bool) → nat_eq b 40 ≡ o → nat_eq b 41 ≡ c → is_digit b ≡ d → is_letter b ≡ l
        → Settled (token_from most (b ∷ bs)) (token_from most (b ∷ bs ++ more)) more
    by_tests true c d l e f g h = ⊎_elim (λ k. inl (rw e k)) (λ k. inr (rw e k)) (ended_settled Open bs more)
    by_tests false true d l e f g h = ⊎_elim (λ k. inl (rw (e, f) k)) (λ k. inr (rw (e, f) k)) (ended_settled Close bs more)
    by_tests false false true l e f g h = ⊎_elim (λ k. inl (rw (e, f, g) k)) (λ k. inr (rw (e, f, g) k)) (number_settled most b bs more)
    by_tests false false false true e f g h = ⊎_elim (λ k. inl (rw (e, f, g, h) k)) (λ k. inr (rw (e, f, g, h) k)) (word_settled b bs more)
    by_tests false false false false e f g h = inr (rw (e, f, g, h) refl)

none_from : (most : ℕ) → token_from most [] ≡ Err More
unfolding token_from
none_from most = refl

pub token_settled : (most : ℕ) (bytes more : List ℕ) → Settled (token_at most bytes) (token_at most (bytes ++ more)) more
token_settled most bytes more =
    ⊎_elim
    (λ h. let parts = within is_space bytes more h in
    ⊎_elim (λ k. inl k) (λ k. inr (ap (token_from most) parts.2 ∙ k)) (from_settled most (drop (prefix_len is_space bytes) bytes) more))
    (λ h. inl (ap (token_from most) (whole_run is_space bytes h).1 ∙ none_from most))
    (run_ends is_space bytes)

-- which of them it is
abbrev Cases : {A : Type 0} → Result (A × List ℕ) Stop → Result (A × List ℕ) Stop → List ℕ → Type 0
Cases {A = A} now then more = (now ≡ Err More) ⊎ (((s : Stop) × (now ≡ Err s) × (then ≡ Err s))
    ⊎ ((x : A) × (rest : List ℕ) × (now ≡ Ok (x, rest)) × (then ≡ Ok (x, rest ++ more))))

cases_of : {A : Type 0} (now then : Result (A × List ℕ) Stop) (more : List ℕ) → Settled now then more → Cases now then more
cases_of now then more (inl h) = inl h
cases_of (Ok x) then more (inr h) = inr (inr (x.0, x.1, refl, h))
cases_of (Err s) then more (inr h) = inr (inl (s, refl, h))

pub front_more : (front : List Token) (more : List ℕ) (read : Result (List Token × List ℕ) Stop)
    → with_front front (with_more more read) ≡ with_more more (with_front front read)
front_more front more (Ok x) = refl
front_more front more (Err e) = refl

-- a token was read, and tokens follow or don't
token_first : (limits : Limits) (room level : ℕ) (bytes more : List ℕ) (t : Token) (rest : List ℕ) (next : Result ℕ Stop)
    → token_at limits.text bytes ≡ Ok (t, rest) → token_at limits.text (bytes ++ more) ≡ Ok (t, rest ++ more)
    → next_level limits.depth level t ≡ next
    → ((l : ℕ) → Settled (tokens_at limits room l rest) (tokens_at limits room l (rest ++ more)) more)
    → Settled (tokens_at limits (suc room) level bytes) (tokens_at limits (suc room) level (bytes ++ more)) more
unfolding tokens_at
token_first limits room level bytes more t rest (Err s) e f n further = inr (rw (e, f, n) refl)
token_first limits room level bytes more t rest (Ok l) e f n further = by_test (nat_eq l 0) refl (further l)
  where
    by_test : (c : Bool) → nat_eq l 0 ≡ c → Settled (tokens_at limits room l rest) (tokens_at limits room l (rest ++ more)) more
        → Settled (tokens_at limits (suc room) level bytes) (tokens_at limits (suc room) level (bytes ++ more)) more
    by_test true z k = inr (rw (e, f, n, z) refl)
    by_test false z (inl k) = inl (rw (e, n, z, k) refl)
    by_test false z (inr k) = inr (rw (e, f, n, z, k) (front_more (t ∷ []) more (tokens_at limits room l rest)))

pub tokens_settled : (limits : Limits) (room level : ℕ) (bytes more : List ℕ)
    → Settled (tokens_at limits room level bytes) (tokens_at limits room level (bytes ++ more)) more
unfolding tokens_at
tokens_settled limits zero level bytes more = inr refl
tokens_settled limits (suc room) level bytes more =
    ⊎_elim
    (λ h. inl (rw h refl))
    (λ other. ⊎_elim
    (λ h. inr (rw (h.1, h.2) refl))
    (λ h. token_first limits room level bytes more h.0 h.1 (next_level limits.depth level h.0) h.2 h.3 refl
    (λ l. tokens_settled limits room l h.1 more))
    other)
    (cases_of (token_at limits.text bytes) (token_at limits.text (bytes ++ more)) more (token_settled limits.text bytes more))

pub pieces_same : PiecesChangeNothing
pieces_same limits bytes more = tokens_settled limits limits.tokens 0 bytes more
