-- Tuples of a list, one after the other.
use Rattle.std.proofs.Common.{◌≡◌, ℕ, zero, suc, Bool, true, false, sym, ap, ◌∙◌, List, [], ◌∷◌, Result, Ok, Err, refl}
use Rattle.svn_wire.specs.declared.token.Token.{Token}
use Rattle.svn_wire.specs.declared.token.Token.TheVariants.{Open, Close, Number, Word, Text}
use Rattle.svn_ask.specs.declared.fault.AskFault.{AskFault}
use Rattle.svn_ask.specs.declared.fault.AskFault.TheVariants as faults
use Rattle.svn_ask.specs.declared.fault.Reason.{Reason}
use Rattle.svn_ask.specs.declared.fault.Reason.TheVariants.{Malformed}
use Rattle.svn_ask.specs.Reading.{◌>>=◌, Fails, given}
use Rattle.svn_ask.specs.Tuples.{after_list, begins, tuples}
use Rattle.svn_ask.proofs.ReadingLemmas.{fails_first}

flag_of : Result (Bool × List Token) Reason → Bool
flag_of (Ok x) = x.0
flag_of (Err e) = true

tokens_of : Result (Bool × List Token) Reason → List Token
tokens_of (Ok x) = x.1
tokens_of (Err e) = []

other_flag : (ts after : List Token) (read : Result (Bool × List Token) Reason) → read ≡ Ok (true, ts) → read ≡ Ok (false, after) → ⊥
unfolding flag_of
other_flag ts after read h k = let same : true ≡ false = sym (ap flag_of h) ∙ ap flag_of k in cc

-- what is left of a tuple is passed over
pub passed_over : {S : Type 0} (add : S → List Token → Result S Reason) (deep : ℕ) (state : S) (ts : List Token)
    → tuples add (suc deep) state ts ≡ (given Malformed (after_list deep ts) >>= λ after. tuples add 0 state after)
passed_over add deep state [] = refl
passed_over add deep state (Open ∷ ts) = passed_over add (suc deep) state ts
passed_over add zero state (Close ∷ ts) = refl
passed_over add (suc deep) state (Close ∷ ts) = passed_over add deep state ts
passed_over add deep state (Number n ∷ ts) = passed_over add deep state ts
passed_over add deep state (Word word ∷ ts) = passed_over add deep state ts
passed_over add deep state (Text text ∷ ts) = passed_over add deep state ts

-- the list ends
pub list_ends : {S : Type 0} (add : S → List Token → Result S Reason) (state : S) (ts after : List Token) → begins ts ≡ Ok (false, after)
    → tuples add 0 state ts ≡ Ok (state, after)
unfolding tokens_of
list_ends add state [] after h = cc
list_ends add state (Open ∷ ts) after h = absurd (other_flag ts after (Ok (true, ts)) refl h)
list_ends add state (Close ∷ ts) after h = ap (λ r. Ok (state, tokens_of r)) h
list_ends add state (Number n ∷ ts) after h = cc
list_ends add state (Word word ∷ ts) after h = cc
list_ends add state (Text text ∷ ts) after h = cc

again : {S : Type 0} → S → Result (Bool × List Token) Reason → Result (S × List Token) Reason
again state (Ok x) = Ok (state, x.1)
again state (Err e) = Err e

begin_fault : {S : Type 0} (add : S → List Token → Result S Reason) (state : S) (ts : List Token) (reason : Reason) → begins ts ≡ Err reason
    → tuples add 0 state ts ≡ Err reason
unfolding again
begin_fault add state [] reason h = ap (again state) h
begin_fault add state (Open ∷ ts) reason h = cc
begin_fault add state (Close ∷ ts) reason h = cc
begin_fault add state (Number n ∷ ts) reason h = ap (again state) h
begin_fault add state (Word word ∷ ts) reason h = ap (again state) h
begin_fault add state (Text text ∷ ts) reason h = ap (again state) h

-- neither a tuple nor the end
pub bad_begin : {S : Type 0} (add : S → List Token → Result S Reason) (state : S) (ts : List Token) (e : AskFault) → Fails e (begins ts)
    → Fails e (tuples add 0 state ts)
bad_begin add state ts (faults.Refused reason) h = begin_fault add state ts reason h
bad_begin add state ts faults.Memory h = tt

-- a tuple begins
opens : (ts fields : List Token) → begins ts ≡ Ok (true, fields) → ts ≡ Open ∷ fields
unfolding tokens_of
opens [] fields h = cc
opens (Open ∷ ts) fields h = ap (λ r. Open ∷ tokens_of r) h
opens (Close ∷ ts) fields h = absurd (other_flag fields ts (Ok (false, ts)) h refl)
opens (Number n ∷ ts) fields h = cc
opens (Word word ∷ ts) fields h = cc
opens (Text text ∷ ts) fields h = cc

-- a tuple is added, and the list goes on after it
pub one_tuple : {S : Type 0} (add : S → List Token → Result S Reason) (state next : S) (ts fields after : List Token)
    → begins ts ≡ Ok (true, fields) → add state fields ≡ Ok next → given Malformed (after_list 0 fields) ≡ Ok after
    → tuples add 0 state ts ≡ tuples add 0 next after
one_tuple add state next ts fields after begun added rest =
    ap (tuples add 0 state) (opens ts fields begun) ∙ rw (added, passed_over add 0 next fields, rest) refl

-- a tuple that can't be added
pub bad_tuple : {S : Type 0} (add : S → List Token → Result S Reason) (state : S) (ts fields : List Token) (e : AskFault)
    → begins ts ≡ Ok (true, fields) → Fails e (add state fields) → Fails e (tuples add 0 state ts)
bad_tuple add state ts fields e begun h =
    rw (opens ts fields begun) (fails_first e (add state fields) (λ next. tuples add 1 next fields) h)

-- a tuple that doesn't end
pub endless_tuple : {S : Type 0} (add : S → List Token → Result S Reason) (state next : S) (ts fields : List Token) (e : AskFault)
    → begins ts ≡ Ok (true, fields) → add state fields ≡ Ok next → Fails e (given Malformed (after_list 0 fields)) → Fails e (tuples add 0 state ts)
endless_tuple add state next ts fields e begun added h =
    rw (opens ts fields begun, added, passed_over add 0 next fields)
    (fails_first e (given Malformed (after_list 0 fields)) (λ after. tuples add 0 next after) h)
