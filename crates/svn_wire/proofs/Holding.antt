-- Bytes of which more are needed: no more of them than a token has.
use Rattle.std.proofs.Common.{◌≡◌, ℕ, suc, ◌+◌, ◌-◌, ◌≤◌, Bool, true, false, cond, ◌&&◌, List, [], ◌∷◌, ◌++◌, length, length-drop, take, drop, nat_eq, nat_lt, nat_le, Option, Some, None, Result, Ok, Err, refl, sym, ap, subst, ◌∙◌, arith}
use Rattle.std.specs.Prelude.{IfErr}
use Rattle.std.specs.List.{list_all, prefix_len, take_while}
use Rattle.std.proofs.lemmas.Bool.{ltb-false, ltb-true, leb-true}
use Rattle.std.proofs.lemmas.List.Folds.{length-prefix_len}
use Rattle.svn_digits.specs.Numbers.{is_digit, decimal_value, fitting, has_bytes, number_of}
use Rattle.svn_wire.specs.declared.fault.Malformed.{Malformed}
use Rattle.svn_wire.specs.declared.fault.Malformed.TheVariants.{BadByte, NoSpace, NotOpened, TooDeep, WordTooLong, TextTooLong}
use Rattle.svn_wire.specs.declared.fault.Stop.{Stop}
use Rattle.svn_wire.specs.declared.fault.Stop.TheVariants.{More, Bad}
use Rattle.svn_wire.specs.declared.token.Token.{Token}
use Rattle.svn_wire.specs.declared.token.Token.TheVariants.{Open, Close, Number, Word, Text}
use Rattle.svn_wire.specs.declared.item.Limits.{Limits}
use Rattle.svn_wire.specs.declared.fault.WireFault.{WireFault}
use Rattle.svn_wire.specs.declared.fault.WireFault.TheVariants as faults
use Rattle.svn_wire.specs.Laws.{IsToken, AreTokens}
use Rattle.svn_wire.specs.Reading.{◌>>=◌, Fails}
use Rattle.svn_wire.specs.Items.{next_level}
use Rattle.svn_wire.specs.Streams.{FewLeft, IsNoWait, waiting}
use Rattle.svn_wire.specs.Tokens.{is_space, is_letter, is_word_byte, ended, text_at, after_number, or_too_large, number_at, word_at, token_from, token_at, max_word}

more_else : {A : Type 0} (b : Bool) (e : Malformed) (r : Result A Stop) → cond b (Err (Bad e)) r ≡ Err More → (b ≡ false) × (r ≡ Err More)
more_else true e r h = cc
more_else false e r h = (refl, h)

more_then : {A : Type 0} (b : Bool) (r : Result A Stop) (e : Malformed) → cond b r (Err (Bad e)) ≡ Err More → (b ≡ true) × (r ≡ Err More)
more_then true r e h = (refl, h)
more_then false r e h = cc

ended_by : (b : Bool) (t : Token) (bs : List ℕ) → cond {A = Result (Token × List ℕ) Stop} b (Ok (t, bs)) (Err (Bad NoSpace)) ≡ Err More → ⊥
ended_by true t bs h = cc
ended_by false t bs h = cc

ended_more : (t : Token) (bs : List ℕ) → ended t bs ≡ Err More → length bs ≡ 0
ended_more t [] h = refl
ended_more t (b ∷ bs) h = absurd (ended_by (is_space b) t bs h)

text_more : (most len : ℕ) (bytes : List ℕ) → text_at most len bytes ≡ Err More → length bytes ≤ most
text_more most len bytes h =
    let small = more_else (nat_lt most len) TextTooLong _ h in
    by_length (nat_lt (length bytes) len) refl (ltb-false most len small.0) small.1
  where
    by_length : (b : Bool) → nat_lt (length bytes) len ≡ b → len ≤ most
        → cond b (Err More) (ended (Text (take len bytes)) (drop len bytes)) ≡ Err More → length bytes ≤ most
    by_length true fewer within h = omega (arith, ltb-true (length bytes) len fewer, within)
    by_length false enough within h = omega (arith, ended_more (Text (take len bytes)) (drop len bytes) h, length-drop len bytes, within)

after_more : (most n : ℕ) (bs : List ℕ) → after_number most n bs ≡ Err More → length bs ≤ most + 1
after_more most n [] h = omega arith
after_more most n (b ∷ bs) h = by_colon (nat_eq b 58) h
  where
    by_colon : (c : Bool) → cond c (text_at most n bs) (ended (Number n) (b ∷ bs)) ≡ Err More → length (b ∷ bs) ≤ most + 1
    by_colon true h = omega (arith, text_more most n bs h)
    by_colon false h = absurd (omega (arith, ended_more (Number n) (b ∷ bs) h))

few_digits : (some few all : Bool) (o : Option ℕ) (n : ℕ) → cond (some && few && all) o None ≡ Some n → few ≡ true
few_digits true true all o n h = refl
few_digits true false all o n h = cc
few_digits false few all o n h = cc

number_by : (o : Option ℕ) (most : ℕ) (rest : List ℕ) → (or_too_large o >>= λ n. after_number most n rest) ≡ Err More
    → (n : ℕ) × (o ≡ Some n) × (after_number most n rest ≡ Err More)
number_by None most rest h = cc
number_by (Some n) most rest h = (n, refl, h)

number_more : (most : ℕ) (bytes : List ℕ) → number_at most bytes ≡ Err More → length bytes ≤ most + 21
unfolding number_at
number_more most bytes h =
    let digits : List ℕ = take_while is_digit bytes in
    let k : ℕ = prefix_len is_digit bytes in
    let n = number_by (number_of digits) most (drop k bytes) h in
    let few = few_digits (has_bytes digits) (nat_le (length digits) 20) (list_all is_digit digits) (fitting (decimal_value digits)) n.0 n.1 in
    omega
    (arith, leb-true (length digits) 20 few, length-prefix_len is_digit bytes, after_more most n.0 (drop k bytes) n.2, length-drop k bytes)

word_more : (bytes : List ℕ) → word_at bytes ≡ Err More → length bytes ≤ max_word
unfolding word_at
word_more bytes h =
    let word : List ℕ = take_while is_word_byte bytes in
    let k : ℕ = prefix_len is_word_byte bytes in
    let short = more_else (nat_lt max_word (length word)) WordTooLong _ h in
    omega (
      arith,
      ltb-false max_word (length word) short.0,
      length-prefix_len is_word_byte bytes,
      ended_more (Word word) (drop k bytes) short.1,
      length-drop k bytes,
    )

from_more : (most : ℕ) (bytes : List ℕ) → token_from most bytes ≡ Err More → length bytes ≤ most + 24
unfolding token_from
from_more most [] h = omega arith
from_more most (b ∷ bs) h = by_first (nat_eq b 40) (nat_eq b 41) (is_digit b) (is_letter b) h
  where
    by_first : (opens closes digit letter : Bool)
        → cond opens (ended Open bs)
        (cond closes (ended Close bs) (cond digit (number_at most (b ∷ bs)) (cond letter (word_at (b ∷ bs)) (Err (Bad BadByte))))) ≡ Err More
        → length (b ∷ bs) ≤ most + 24
    by_first true closes digit letter h = omega (arith, ended_more Open bs h)
    by_first false true digit letter h = omega (arith, ended_more Close bs h)
    by_first false false true letter h = omega (arith, number_more most (b ∷ bs) h)
    by_first false false false true h = omega (arith, word_more (b ∷ bs) h)
    by_first false false false false h = cc

-- a run that was dropped isn't followed by more of it
no_more_run : (p : ℕ → Bool) (bytes : List ℕ) → prefix_len p (drop (prefix_len p bytes) bytes) ≡ 0
no_more_run p [] = refl
no_more_run p (b ∷ bs) = by_test (p b) refl (no_more_run p bs)
  where
    by_test : (c : Bool) → p b ≡ c → prefix_len p (drop (prefix_len p bs) bs) ≡ 0 → prefix_len p (drop (prefix_len p (b ∷ bs)) (b ∷ bs)) ≡ 0
    by_test true e further =
        let longer : prefix_len p (b ∷ bs) ≡ suc (prefix_len p bs) = rw e (omega arith) in
        rw longer further
    by_test false e further = rw e (rw e refl)

-- what is left after spaces
pub few_left : (most : ℕ) (bytes : List ℕ) → token_at most (drop (prefix_len is_space bytes) bytes) ≡ Err More
    → length (drop (prefix_len is_space bytes) bytes) ≤ most + 24
few_left most bytes h =
    let rest : List ℕ = drop (prefix_len is_space bytes) bytes in
    from_more most rest (sym (ap (λ k. token_from most (drop k rest)) (no_more_run is_space bytes)) ∙ h)

pub few_waiting : (limits : Limits) (bytes rest : List ℕ) (fault : WireFault) → rest ≡ drop (prefix_len is_space bytes) bytes
    → Fails fault (token_at limits.text rest) → FewLeft limits rest (waiting fault)
few_waiting limits bytes rest (faults.Stopped More) is fails =
    subst (λ (l : List ℕ). length l ≤ limits.text + 24) (sym is)
    (few_left limits.text bytes (ap (token_at limits.text) (sym is) ∙ fails))
few_waiting limits bytes rest (faults.Stopped (Bad malformed)) is fails = tt
few_waiting limits bytes rest faults.Memory is fails = tt

pub one_more : (most : ℕ) (ts : List Token) (t : Token) → IsToken most t → AreTokens most ts → AreTokens most (ts ++ t ∷ [])
one_more most [] t is all = (is, tt)
one_more most (u ∷ ts) t is all = (all.0, one_more most ts t is all.1)

-- ---- refusals

pub waiting_refuses : (fault : WireFault) → IfErr (waiting fault) IsNoWait
waiting_refuses (faults.Stopped More) = tt
waiting_refuses (faults.Stopped (Bad malformed)) = tt
waiting_refuses faults.Memory = tt

level_by : (b : Bool) (e : Malformed) (n : ℕ) → cond {A = Result ℕ Stop} b (Err (Bad e)) (Ok n) ≡ Err More → ⊥
level_by true e n h = cc
level_by false e n h = cc

level_more : (deepest level : ℕ) (t : Token) → next_level deepest level t ≡ Err More → ⊥
level_more deepest level Open h = level_by (nat_le deepest level) TooDeep (level + 1) h
level_more deepest level Close h = level_by (nat_eq level 0) NotOpened (level - 1) h
level_more deepest level (Number n) h = cc
level_more deepest level (Word bytes) h = cc
level_more deepest level (Text bytes) h = cc

pub level_refuses : (deepest level : ℕ) (t : Token) (fault : WireFault) → Fails fault (next_level deepest level t) → IsNoWait fault
level_refuses deepest level t (faults.Stopped More) h = level_more deepest level t h
level_refuses deepest level t (faults.Stopped (Bad malformed)) h = tt
level_refuses deepest level t faults.Memory h = tt
