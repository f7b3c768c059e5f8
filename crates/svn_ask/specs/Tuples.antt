-- Lists of tuples, of which the first fields are known: those after them are passed over.
--     after_list deep tokens      what is after the end of the list that is open, within which so many others are
--     tuples add deep state tokens      the state after each tuple of the list that is open was added to it, and what is after the list
use Rattle.std.specs.Prelude.{ℕ, zero, suc, Bool, true, false, List, [], ◌∷◌, Option, Some, None, Result, Ok, Err}
use Rattle.svn_wire.specs.declared.token.Token.{Token}
use Rattle.svn_wire.specs.declared.token.Token.TheVariants.{Open, Close, Number, Word, Text}
use Rattle.svn_ask.specs.declared.fault.Reason.{Reason}
use Rattle.svn_ask.specs.declared.fault.Reason.TheVariants.{Malformed}
use Rattle.svn_ask.specs.Reading.{◌>>=◌}

abbrev pub after_list : ℕ → List Token → Option (List Token)
after_list deep [] = None
after_list deep (Open ∷ ts) = after_list (suc deep) ts
after_list zero (Close ∷ ts) = Some ts
after_list (suc deep) (Close ∷ ts) = after_list deep ts
after_list deep (Number n ∷ ts) = after_list deep ts
after_list deep (Word word ∷ ts) = after_list deep ts
after_list deep (Text text ∷ ts) = after_list deep ts

-- whether a tuple begins, and what is after its parenthesis; or the list ends
abbrev pub begins : List Token → Result (Bool × List Token) Reason
begins (Open ∷ ts) = Ok (true, ts)
begins (Close ∷ ts) = Ok (false, ts)
begins _ = Err Malformed

-- `deep` is 0 between two tuples, and within one it counts the lists that are open, itself among them
abbrev pub tuples : {S : Type 0} → (S → List Token → Result S Reason) → ℕ → S → List Token → Result (S × List Token) Reason
tuples add deep state [] = Err Malformed
tuples add zero state (Open ∷ ts) = add state ts >>= λ next. tuples add 1 next ts
tuples add zero state (Close ∷ ts) = Ok (state, ts)
tuples add zero state (Number n ∷ ts) = Err Malformed
tuples add zero state (Word word ∷ ts) = Err Malformed
tuples add zero state (Text text ∷ ts) = Err Malformed
tuples add (suc deep) state (Open ∷ ts) = tuples add (suc (suc deep)) state ts
tuples add (suc deep) state (Close ∷ ts) = tuples add deep state ts
tuples add (suc deep) state (Number n ∷ ts) = tuples add (suc deep) state ts
tuples add (suc deep) state (Word word ∷ ts) = tuples add (suc deep) state ts
tuples add (suc deep) state (Text text ∷ ts) = tuples add (suc deep) state ts
