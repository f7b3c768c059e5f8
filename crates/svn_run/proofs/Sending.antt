-- What a drive makes of the driver's ends: the calls that were sent.
use Rattle.std.proofs.Common.{◌≡◌, ℕ, ◌<◌, true, false, true≢false, List, [], ◌∷◌, ◌++◌, length, take}
use Rattle.std.proofs.Common.{append-nil, append_assoc, refl, sym, ap, subst, ◌∙◌, inl, inr, ⊎_elim}
use Rattle.std.specs.Prelude.{◌⊎◌, Option, Some, None, Result, Ok, Err}
use Rattle.svn_editor.specs.declared.call.Call.{Call}
use Rattle.svn_editor.specs.declared.call.Call.TheVariants.{AbortEdit}
use Rattle.svn_editor.specs.declared.fault.EditFault.{EditFault}
use Rattle.svn_editor.specs.declared.fault.EditFault.TheVariants as fault
use Rattle.svn_editor.specs.Editing.{Leads}
use Rattle.svn_link.specs.Calls.{is_over}
use Rattle.svn_model.specs.declared.stop.Stop.{Stop}
use Rattle.svn_model.specs.declared.stop.Stop.TheVariants as stop
use Rattle.svn_model.specs.declared.drive_end.DriveEnd.{DriveEnd}
use Rattle.svn_model.specs.declared.drive_end.DriveEnd.TheVariants.{Closed}
use Rattle.svn_model.specs.declared.drive_fault.DriveFault.{DriveFault}
use Rattle.svn_model.specs.declared.drive_fault.DriveFault.TheVariants as end
use Rattle.svn_model.specs.Ends.{StopsBefore, LeavesSome, Halts, IsWithin, IsEarly, Drives, end_of}
use Rattle.svn_run.specs.Senders.{SenderEnds, IsReason, Answered, IsEnded}
use Rattle.svn_run.specs.Driven.{IsStopped, StopsOn, IsSent}
use Rattle.svn_run.proofs.Halting.{never_early, one_left, RefusedAt, stopped}

abbrev no_fault : Option DriveFault
no_fault = None

-- the two ends stay those that they were, and these calls were sent
record Passes (l : SenderEnds) (cs : List Call) (m : SenderEnds) : Type 0 where
  link : m.out.link ≡ l.out.link
  notice : m.watch.notice ≡ l.watch.notice
  calls : m.out.calls ≡ l.out.calls ++ cs

passes : (cs : List Call) (l m : SenderEnds) → Leads Answered cs l m → Passes l cs m
passes [] l m led = record {
  link = ap (λ (x : SenderEnds). x.out.link) (sym led);
  notice = ap (λ (x : SenderEnds). x.watch.notice) (sym led);
  calls = ap (λ (x : SenderEnds). x.out.calls) (sym led) ∙ sym (append-nil l.out.calls);
}
passes (c ∷ cs) l m led =
    let rest = passes cs led.0 m led.2 in
    record {
      link = rest.link ∙ led.1.link;
      notice = rest.notice ∙ led.1.notice;
      calls = rest.calls ∙ ap (λ x. x ++ cs) led.1.sent
          ∙ append_assoc l.out.calls (c ∷ []) cs;
    }

is_over-snoc : (calls : List Call) → is_over (calls ++ AbortEdit ∷ []) ≡ true
is_over-snoc [] = refl
is_over-snoc (d ∷ []) = refl
is_over-snoc (d ∷ e ∷ calls) = is_over-snoc (e ∷ calls)

module _ (drive : List Call) (limit : Option ℕ) (some : 0 < length drive) (closes : is_over drive ≡ true)
    (opened : (k : ℕ) → k < length drive → is_over (take k drive) ≡ false)
    (l : SenderEnds) (fresh : l.out.calls ≡ []) where
  -- the ends as they were, after these calls
  record At (calls : List Call) (m : SenderEnds) : Type 0 where
    link : m.out.link ≡ l.out.link
    notice : m.watch.notice ≡ l.watch.notice
    calls_are : m.out.calls ≡ calls

  led_to : (calls : List Call) (m : SenderEnds) → Leads Answered calls l m → At calls m
  led_to calls m led = let all = passes calls l m led in
      record { link = all.link; notice = all.notice; calls_are = all.calls ∙ ap (λ x. x ++ calls) fresh }

  -- `AbortEdit` was sent, or nothing more was
  pub record Tried (calls : List Call) (m f : SenderEnds) : Type 0 where
    pub link : f.out.link ≡ l.out.link
    pub notice : f.watch.notice ≡ l.watch.notice
    pub sent : (f.out.calls ≡ calls ++ AbortEdit ∷ []) ⊎ (f.out.calls ≡ calls)
    pub again : (n : ℕ) → m.watch.number ≡ Some n → f.watch.number ≡ Some n

  tries : (calls : List Call) (m f : SenderEnds) (answer : Result (Unit {0}) EditFault) → At calls m
      → Answered m AbortEdit answer f → Tried calls m f
  tries calls m f (Ok done) was a =
      record {
        link = a.link ∙ was.link;
        notice = a.notice
            ∙ was.notice;
        sent = inl (a.sent ∙ ap (λ x. x ++ AbortEdit ∷ []) was.calls_are);
        again = a.again;
      }
  tries calls m f (Err e) was a =
      record { link = a.link ∙ was.link; notice = a.notice ∙ was.notice; sent = inr (a.sent.0 ∙ was.calls_are); again = a.again }

  -- what is left at the end
  pub record Whole (r : Result DriveEnd DriveFault) (f : SenderEnds) : Type 0 where
    pub link : f.out.link ≡ l.out.link
    pub notice : f.watch.notice ≡ l.watch.notice
    pub sent : IsSent drive limit f.out.calls f.watch.number r

  abbrev IsAborted : SenderEnds → ℕ → Type 0
  IsAborted f k = is_over f.out.calls ≡ true → IsStopped drive limit f.out.calls k

  aborted : (k : ℕ) (f : SenderEnds) → k < length drive → IsWithin limit k
      → (f.out.calls ≡ take k drive ++ AbortEdit ∷ []) ⊎ (f.out.calls ≡ take k drive) → IsAborted f k
  aborted k f lt within sent over =
      ⊎_elim
      (λ (t : f.out.calls ≡ take k drive ++ AbortEdit ∷ []). let r : IsStopped drive limit f.out.calls k =
      record { part = lt; calls_are = t; within = within } in r)
      (λ (t : f.out.calls ≡ take k drive). absurd (true≢false (sym over ∙ ap is_over t ∙ opened k lt)))
      sent

  -- at most one more `AbortEdit` is tried
  record Over (k : ℕ) (m f : SenderEnds) : Type 0 where
    link : f.out.link ≡ l.out.link
    notice : f.watch.notice ≡ l.watch.notice
    stops : IsAborted f k
    again : (n : ℕ) → m.watch.number ≡ Some n → f.watch.number ≡ Some n

  ends_after : (k : ℕ) (m g f : SenderEnds) → k < length drive → IsWithin limit k → Tried (take k drive) m g → IsEnded g f → Over k m f
  ends_after k m g f lt within t e =
      ⊎_elim
      (λ (sent : g.out.calls ≡ take k drive ++ AbortEdit ∷ []).
      let same = e.over (ap is_over sent ∙ is_over-snoc (take k drive)) in
      let r : Over k m f = subst (λ x. Over k m x) (sym same)
      (record { link = t.link; notice = t.notice; stops = aborted k g lt within t.sent; again = t.again }) in
      r)
      (λ (sent : g.out.calls ≡ take k drive).
      let more = e.more (ap is_over sent ∙ opened k lt) in
      let u = tries (take k drive) g f more.0 (record { link = t.link; notice = t.notice; calls_are = sent }) more.1 in
      let r : Over k m f = record {
        link = u.link;
        notice = u.notice;
        stops = aborted k f lt within u.sent;
        again = λ n seen. u.again n (t.again n seen);
      } in
      r)
      t.sent

  -- ---- the driver's results

  sent_own : (s : Stop) (k : ℕ) (m f : SenderEnds) → StopsBefore limit k s → Over k m f
      → IsSent drive limit f.out.calls f.watch.number (end_of s k)
  sent_own stop.Cancelled k m f why o over = (why, o.stops over)
  sent_own stop.Full k m f why o over = ((k, o.stops over), tt)
  sent_own stop.Memory k m f why o over = ((k, o.stops over), tt)
  sent_own (stop.Editor e) k m f why o over = absurd why

  -- a refusal of the sender is a number that it saw, or that it was full
  seen : (x m f : SenderEnds) (e : EditFault) → IsReason x e m → ((n : ℕ) → m.watch.number ≡ Some n → f.watch.number ≡ Some n)
      → StopsOn drive limit f.out.calls f.watch.number (end.Editor e)
  seen x m f (fault.Late n) why again = again n why
  seen x m f (fault.Order o) why again = tt
  seen x m f fault.NoEntry why again = tt
  seen x m f fault.WrongKind why again = tt
  seen x m f fault.WrongRevision why again = tt
  seen x m f fault.BaseChecksum why again = tt
  seen x m f fault.TextChecksum why again = tt
  seen x m f fault.Memory why again = tt
  seen x m f fault.EntryExists why again = tt
  seen x m f fault.TooDeep why again = tt
  seen x m f fault.TooLong why again = tt
  seen x m f fault.Stopped why again = tt

  at_refused : (k : ℕ) (x m : SenderEnds) (c : Call) (e : EditFault) → At (take k drive) x → Answered x c (Err e) m → At (take k drive) m
  at_refused k x m c e was a = record { link = a.link ∙ was.link; notice = a.notice ∙ was.notice; calls_are = a.sent.0 ∙ was.calls_are }

  halted : (s : Stop) (k : ℕ) (m g f : SenderEnds) (answer : Result (Unit {0}) EditFault) → Halts Answered limit k drive l m k s
      → Answered m AbortEdit answer g → k < length drive → IsWithin limit k → IsEnded g f
      → Whole (end_of s k) f
  halted s k m g f answer halts a lt within e =
      let r = stopped Answered limit k drive l m k s halts in
      let was = led_to (take k drive) r.0 r.1.0 in
      ⊎_elim
      (λ (t : (r.0 ≡ m) × StopsBefore limit k s).
      let here : At (take k drive) m = subst (At (take k drive)) t.0 was in
      let o = ends_after k m g f lt within (tries (take k drive) m g answer here a) e in
      let w : Whole (end_of s k) f = record { link = o.link; notice = o.notice; sent = sent_own s k m f t.1 o } in
      w)
      (λ (t : RefusedAt Answered limit k drive r.0 m k s).
      let here = at_refused k r.0 m t.call t.fault was t.refused in
      let o = ends_after k m g f lt within (tries (take k drive) m g answer here a) e in
      let w : Whole (end_of (stop.Editor t.fault) k) f =
      record { link = o.link; notice = o.notice; sent = λ over. ((k, o.stops over), seen r.0 m f t.fault t.refused.sent.1 o.again) } in
      subst (λ z. Whole (end_of z k) f) (sym t.stop) w)
      r.1.1

  whole : (n : ℕ) (g f : SenderEnds) → Leads Answered drive l g → n ≡ length drive → IsWithin limit n → IsEnded g f → Whole (Ok (Closed n)) f
  whole n g f led count within e =
      let was = led_to drive g led in
      let same = e.over (ap is_over was.calls_are ∙ closes) in
      subst (Whole (Ok (Closed n))) (sym same)
      (record { link = was.link; notice = was.notice; sent = λ over. record { count = count; calls_are = was.calls_are; within = within } })

  abbrev AllSent : Result DriveEnd DriveFault → SenderEnds → Type 0
  AllSent r g = (n : ℕ) × (no_fault ≡ None) × Leads Answered drive l g × (n ≡ length drive) × (r ≡ Ok (Closed n)) × IsWithin limit n

  abbrev Stops : Result DriveEnd DriveFault → SenderEnds → Type 0
  Stops r g = (s : Stop) × (k : ℕ) × (m : SenderEnds) × (no_fault ≡ None) × Halts Answered limit k drive l m k s × (r ≡ end_of s k)
      × ((answer : Result (Unit {0}) EditFault) × Answered m AbortEdit answer g) × LeavesSome s k (length drive) × IsWithin limit k

  pub sends : (r : Result DriveEnd DriveFault) (g f : SenderEnds) → Drives Answered limit None drive r l g → IsEnded g f → Whole r f
  sends r g f drove e =
      ⊎_elim
      (λ (t : (l ≡ g) × IsEarly None r). absurd (never_early r t.1))
      (λ (u : AllSent r g ⊎ Stops r g).
      ⊎_elim
      (λ (t : AllSent r g). subst (λ z. Whole z f) (sym t.4) (whole t.0 g f t.2 t.3 t.5 e))
      (λ (t : Stops r g). subst (λ z. Whole z f) (sym t.5) (halted t.0 t.1 t.2 g f t.6.0 t.4 t.6.1 (one_left t.0 t.1 (length drive) t.7) t.8 e))
      u)
      drove
