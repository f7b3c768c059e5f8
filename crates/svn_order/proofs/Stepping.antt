-- A step of an order check, while the edit goes on.
use Rattle.std.proofs.Common.{◌≡◌, Bool, true, false, ◌||◌, cond, List, [], ◌∷◌, ◌++◌, refl, sym, ◌∙◌, ap, subst, inl, inr, true≢false}
use Rattle.std.specs.Prelude.{Option, Some, None, Result, Ok, Err, OnOk, ◌⊎◌}
use Rattle.std.specs.List.{list_any}
use Rattle.svn_lists.proofs.Somewhere.{any_push}
use Rattle.svn_editor.specs.declared.call.Call.{Call}
use Rattle.svn_editor.specs.declared.call.Call.TheVariants.{CloseEdit, AbortEdit}
use Rattle.svn_editor.specs.declared.fault.OrderFault.{OrderFault}
use Rattle.svn_editor.specs.declared.fault.OrderFault.TheVariants as fault
use Rattle.svn_order.specs.declared.order.OrderCheck.{OrderCheck}
use Rattle.svn_order.specs.declared.order.Stage.TheVariants.{Before, During, Ended}
use Rattle.svn_editor.specs.Calls.{is_abort, is_last}
use Rattle.svn_editor.specs.Order.{but_abort, fault_in_order, order_fault, Answers}
use Rattle.svn_order.specs.OrderState.{fault_in}
use Rattle.svn_order.specs.OrderChanges.{Notes, Taken, Takes}
use Rattle.svn_order.specs.StandsAfter.{StandsAfter, Holds, IsDead, HasEnded, LeavesDead}
use Rattle.svn_editor.proofs.Accepted.{accepted, not_ended}
use Rattle.svn_order.proofs.Lawful.{sound, lawful_more}
use Rattle.svn_order.proofs.Answering.{in_order}
use Rattle.svn_order.proofs.Holding.{holds_more}

abbrev refused : OrderFault → Result (Unit {0}) OrderFault
refused e = Err e

abbrev given_up : Result (Unit {0}) OrderFault
given_up = Ok tt

takes_other : (s t : OrderCheck) (c : Call) (r : Result (Unit {0}) OrderFault) → is_abort c ≡ false → Takes s c r t
    → Taken (fault_in s c) s c r t
takes_other s t AbortEdit r n h = absurd (true≢false n)
takes_other s t _ r n h = h

but_other : (calls : List Call) (c : Call) → is_abort c ≡ false → but_abort calls c ≡ fault_in_order calls c
but_other calls AbortEdit n = absurd (true≢false n)
but_other calls _ n = refl

taken_answers : (o : Option OrderFault) (s t : OrderCheck) (c : Call) (r : Result (Unit {0}) OrderFault) → Taken o s c r t → Answers o r
taken_answers (Some f) s t c (Ok done) h = absurd (ok_err done f h.0)
  where
    ok_err : (d : Unit {0}) (f : OrderFault) → Ok d ≡ Err f → ⊥
    ok_err d f e = cc
taken_answers (Some f) s t c (Err e) h = same e f h.0
  where
    same : (e f : OrderFault) → refused e ≡ refused f → e ≡ f
    same e f k = cc
taken_answers None s t c (Ok done) h = tt
taken_answers None s t c (Err e) h = h.0

pub going_answers : (s t : OrderCheck) (c : Call) (r : Result (Unit {0}) OrderFault) → (HasEnded s → ⊥) → Takes s c r t
    → (calls : List Call) → StandsAfter s calls → Answers (order_fault calls c) r
going_answers s t c r unended takes calls stands = by (list_any is_last calls) refl
  where
    by : (b : Bool) → list_any is_last calls ≡ b → Answers (order_fault calls c) r
    by true k = absurd (unended (stands.ended k))
    by false k =
        subst (λ (o : Option OrderFault). Answers o r) (sym (ap (λ b. cond b (Some fault.Ended) (but_abort calls c)) k))
        (at (is_abort c) refl)
      where
        at : (a : Bool) → is_abort c ≡ a → Answers (but_abort calls c) r
        at true a = abort c a takes
          where
            abort : (x : Call) → is_abort x ≡ true → Takes s x r t → Answers (but_abort calls x) r
            abort AbortEdit e h = subst (Answers None) (sym h.0) tt
            abort _ e h = absurd (true≢false (sym e))
        at false a =
            subst (λ (o : Option OrderFault). Answers o r)
            (in_order s calls c (stands.going k) (sound calls stands.lawful) ∙ sym (but_other calls c a))
            (taken_answers (fault_in s c) s t c r (takes_other s t c r a takes))

none_where_ok : (o : Option OrderFault) (d : Unit {0}) → Answers o (Ok d) → o ≡ None
none_where_ok None d h = refl
none_where_ok (Some f) d h = absurd h

notes_where_ok : (o : Option OrderFault) (s t : OrderCheck) (c : Call) (d : Unit {0}) → Taken o s c (Ok d) t → Notes s c t
notes_where_ok None s t c d h = h
notes_where_ok (Some f) s t c d h = absurd (ok_err h.0)
  where
    ok_err : Ok d ≡ Err f → ⊥
    ok_err e = cc

not_last_abort : (c : Call) → is_last c ≡ false → is_abort c ≡ false
not_last_abort CloseEdit h = absurd (true≢false h)
not_last_abort AbortEdit h = absurd (true≢false h)
not_last_abort _ h = refl

ended_last : (s t : OrderCheck) (c : Call) (d : Unit {0}) → is_last c ≡ true → Takes s c (Ok d) t → HasEnded t
ended_last s t AbortEdit d l h = h.1
ended_last s t CloseEdit d l h = ap (λ (x : OrderCheck). x.stage) (notes_where_ok (fault_in s CloseEdit) s t CloseEdit d h)
ended_last s t _ d l h = absurd (true≢false (sym l))

pub going_accepts : (s t : OrderCheck) (c : Call) (r : Result (Unit {0}) OrderFault) → (HasEnded s → ⊥) → Takes s c r t
    → OnOk r ((calls : List Call) → StandsAfter s calls → StandsAfter t (calls ++ c ∷ []))
going_accepts s t c (Err e) unended takes = tt
going_accepts s t c (Ok d) unended takes =
    λ calls stands. accepts calls stands (none_where_ok (order_fault calls c) d (going_answers s t c (Ok d) unended takes calls stands))
  where
    accepts : (calls : List Call) → StandsAfter s calls → order_fault calls c ≡ None → StandsAfter t (calls ++ c ∷ [])
    accepts calls stands none = record {
      lawful = lawful_more calls c stands.lawful none;
      going = λ e. goes (and_last e);
      ended = λ e. ended_last s t c d (sym (ap (λ b. b || is_last c) before) ∙ sym (any_push is_last calls c) ∙ e) takes;
    }
      where
        before : list_any is_last calls ≡ false
        before = not_ended calls c none

        and_last : list_any is_last (calls ++ c ∷ []) ≡ false → is_last c ≡ false
        and_last e = sym (ap (λ b. b || is_last c) before) ∙ sym (any_push is_last calls c) ∙ e

        goes : is_last c ≡ false → Holds t (calls ++ c ∷ [])
        goes l =
            let a = not_last_abort c l in
            holds_more s t calls c (stands.going before) (sound calls stands.lawful) (accepted calls c a none) l
            (notes_where_ok (fault_in s c) s t c d (takes_other s t c (Ok d) a takes))

dead_leaves : (r : Result (Unit {0}) OrderFault) (t : OrderCheck) → IsDead t → LeavesDead r t
dead_leaves (Ok done) t h = tt
dead_leaves (Err fault.Ended) t h = tt
dead_leaves (Err _) t h = h

pub going_leaves : (s t : OrderCheck) (c : Call) (r : Result (Unit {0}) OrderFault) → Takes s c r t → LeavesDead r t
going_leaves s t c (Ok d) takes = tt
going_leaves s t c (Err e) takes = dead_leaves (Err e) t (dead c takes)
  where
    from : (o : Option OrderFault) (x : Call) → Taken o s x (Err e) t → IsDead t
    from None x h = h.2
    from (Some f) x h = h.1

    dead : (x : Call) → Takes s x (Err e) t → IsDead t
    dead AbortEdit h = absurd (err_ok h.0)
      where
        err_ok : refused e ≡ given_up → ⊥
        err_ok k = cc
    dead x h = from (fault_in s x) x h

-- an edit that goes on hasn't ended
pub unended : (s : OrderCheck) → (s.stage ≡ Before) ⊎ (s.stage ≡ During) → HasEnded s → ⊥
unended s (inl b) e = no (sym b ∙ e)
  where
    no : Before ≡ Ended → ⊥
    no k = cc
unended s (inr b) e = no (sym b ∙ e)
  where
    no : During ≡ Ended → ⊥
    no k = cc
