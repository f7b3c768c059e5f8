-- What is written of a drive.
use Rattle.std.proofs.Common.{◌≡◌, ℕ, zero, suc, Bool, true, false, List, [], ◌∷◌, take, length, Option, Some, None, Result, Ok, Err, ◌++◌, inl, inr, refl, sym, ap, ◌∙◌, subst, MatchBool}
use Rattle.std.specs.Io.KnownBytes.{Appends}
use Rattle.std.proofs.KnownBytes.{Appends-trans}
use Rattle.svn_types.specs.Names.{Path}
use Rattle.svn_editor.specs.declared.call.Call.{Call}
use Rattle.svn_editor.specs.declared.call.Call.TheVariants.{AbortEdit}
use Rattle.svn_editor.specs.declared.fault.EditFault.{EditFault}
use Rattle.svn_editor.specs.Calls.{is_abort}
use Rattle.svn_editor.specs.Editing.{Leads}
use Rattle.svn_model.specs.declared.stop.Stop.{Stop}
use Rattle.svn_model.specs.declared.stop.Stop.TheVariants as stop
use Rattle.svn_model.specs.declared.drive_end.DriveEnd.{DriveEnd}
use Rattle.svn_model.specs.declared.drive_end.DriveEnd.TheVariants.{Closed, Cancelled}
use Rattle.svn_model.specs.declared.drive_fault.DriveFault.{DriveFault}
use Rattle.svn_model.specs.Checks.{target_fault}
use Rattle.svn_model.specs.Ends.{Halts, HaltsHere, LeavesSome, IsEarly, Drives, end_of}
use Rattle.svn_drive.specs.Requests.{input_of}
use Rattle.svn_wire_calls.specs.declared.entered.Entered.{Entered}
use Rattle.svn_wire_calls.specs.Entries.{AreWritten}
use Rattle.svn_wire_calls.specs.Laws.{Writes, CallsAreWritten}
use Rattle.svn_served.specs.declared.driving.Driven.{Driven}
use Rattle.svn_served.specs.declared.notes.Notes.{Notes}
use Rattle.svn_replies.specs.Answers.{failure}
use Rattle.svn_replies.specs.Texts.{IsText, IsSum}
use Rattle.svn_served.specs.ClientCalls.{client_name, client_call, client_calls, PassesOn, Skips}
use Rattle.svn_served.specs.Drives.{Drive, noted_drive, input, calls_of, AreSent, LeavesWritten, TellsEnd, IsStopped, IsNone, IsDrive}
use Rattle.svn_served.specs.Told.{Tells}
use Rattle.svn_served.proofs.ClientCalls.{Views, leads_on, abort_passed}

-- ---- a stop that was asked for

module _ {V : Type 0} (answers : V → Call → Result (Unit {0}) EditFault → V → Type 0) (limit : Option ℕ) (made : ℕ) where
  -- the calls before it were accepted, and as many were asked for
  abbrev pub Stopped : ℕ → List Call → V → V → Type 0
  Stopped k calls v w = Leads answers (take k calls) v w × (limit ≡ Some made)

  stops_here : (calls : List Call) (v w : V) → HaltsHere answers limit calls v w made stop.Cancelled → Stopped 0 calls v w
  stops_here [] v w h = let q = h.1 in absurd cc
  stops_here (c ∷ calls) v w (inl h) = (h.0, h.1)
  stops_here (c ∷ calls) v w (inr h) = let q = h.2 in absurd cc

  pub stopped : (k : ℕ) (calls : List Call) (v w : V) → Halts answers limit k calls v w made stop.Cancelled → Stopped k calls v w
  stopped zero calls v w h = stops_here calls v w h
  stopped (suc k) [] v w h = absurd h
  stopped (suc k) (c ∷ calls) v w h = let rest = stopped k calls h.0 w h.2 in ((h.0, h.1, rest.0), rest.1)

-- ---- what each call keeps

module _ {V : Type 0} (answers : V → Call → Result (Unit {0}) EditFault → V → Type 0) {N : Type 0} (kept : V → N)
    (keeps : (v : V) (c : Call) (r : Result (Unit {0}) EditFault) (w : V) → answers v c r w → kept w ≡ kept v) where
  leads_keep : (calls : List Call) (v w : V) → Leads answers calls v w → kept w ≡ kept v
  leads_keep [] v w h = sym (ap kept h)
  leads_keep (c ∷ calls) v w h = leads_keep calls h.0 w h.2 ∙ keeps v c (Ok tt) h.0 h.1

  halt_keeps : (limit : Option ℕ) (made : ℕ) (s : Stop) (calls : List Call) (v w : V) → HaltsHere answers limit calls v w made s → kept w ≡ kept v
  halt_keeps limit made s [] v w h = sym (ap kept h.0)
  halt_keeps limit made s (c ∷ calls) v w (inl h) = sym (ap kept h.0)
  halt_keeps limit made s (c ∷ calls) v w (inr h) = keeps v c (Err h.0) w h.1

  halts_keep : (limit : Option ℕ) (made : ℕ) (s : Stop) (k : ℕ) (calls : List Call) (v w : V) → Halts answers limit k calls v w made s → kept w ≡ kept v
  halts_keep limit made s zero calls v w h = halt_keeps limit made s calls v w h
  halts_keep limit made s (suc k) [] v w h = absurd h
  halts_keep limit made s (suc k) (c ∷ calls) v w h = halts_keep limit made s k calls h.0 w h.2 ∙ keeps v c (Ok tt) h.0 h.1

  -- a whole drive keeps it too
  pub drives_keep : (limit : Option ℕ) (fault : Option DriveFault) (calls : List Call) (end : Result DriveEnd DriveFault) (v w : V)
      → Drives answers limit fault calls end v w → kept w ≡ kept v
  drives_keep limit fault calls end v w (inl h) = sym (ap kept h.0)
  drives_keep limit fault calls end v w (inr (inl h)) = leads_keep calls v w h.2
  drives_keep limit fault calls end v w (inr (inr h)) = keeps h.2 AbortEdit h.6.0 w h.6.1 ∙ halts_keep limit h.1 h.0 h.1 calls v h.2 h.4

-- ---- what is written

module _ {E N M V : Type 0} (writer : E → N) (contents : E → Option (List ℕ)) (teller : E → Notes) (editor : V → E) (held : V → M)
    (name : V → Option (List ℕ)) (texts : V → Bool) where
  -- what may be said of nodes
  abbrev pub told_by : Notes → Path → Option Entered → Type 0
  told_by n = Tells n.served.now (input_of n.served.now.repo n.report.now n.request.now) n.entry.now

  -- what texts stand for
  abbrev pub texts_by : Notes → List ℕ → List ℕ → Type 0
  texts_by n = IsText n.served.now

  abbrev pub sums_by : Notes → List ℕ → List ℕ → Type 0
  sums_by n = IsSum n.served.now

  abbrev pub Writing : E → Call → Result (Unit {0}) EditFault → E → Type 0
  Writing = Writes writer contents teller told_by texts_by sums_by

  abbrev pub Making : V → Call → Result (Unit {0}) EditFault → V → Type 0
  Making = Views Writing editor held name texts

  passed_keeps : (e f : E) (c : Call) (r : Result (Unit {0}) EditFault) → PassesOn Writing e c r f → writer f ≡ writer e
  passed_keeps e f c r (inl h) = h.0
  passed_keeps e f c r (inr h) = ap writer h.1

  shown_keeps : (b : Bool) (e f : E) (c : Call) (r : Result (Unit {0}) EditFault) → MatchBool b (Skips e r f) (PassesOn Writing e c r f) → writer f ≡ writer e
  shown_keeps true e f c r h = ap writer h.1
  shown_keeps false e f c r h = passed_keeps e f c r h

  -- each call is for the same writer
  pub making_keeps : (v : V) (c : Call) (r : Result (Unit {0}) EditFault) (w : V) → Making v c r w → writer (editor w) ≡ writer (editor v)
  making_keeps v c r w h = shown_keeps (is_abort c) (editor v) (editor w) (client_call (name v) (texts v) c) r h.3

  -- and by the same editor
  pub making_holds : (v : V) (c : Call) (r : Result (Unit {0}) EditFault) (w : V) → Making v c r w → held w ≡ held v
  making_holds v c r w h = h.2

  module _ (n : Notes) (v : V) (is : teller (editor v) ≡ n) (named : name v ≡ client_name n.entry.now)
      (law : CallsAreWritten writer contents teller told_by texts_by sums_by (editor v)) where
    abbrev made : Drive
    made = noted_drive n (texts v)

    -- calls that were all accepted
    sent : (calls : List Call) (w : V) → Leads Making calls v w
        → (bytes : List ℕ) × AreSent made calls bytes × Appends (contents (editor v)) (contents (editor w)) bytes
    sent calls w h =
        let x = (law (client_calls (name v) (texts v) calls) (editor w) (leads_on Writing editor held name texts calls v w h)).1 in
        let by_notes = subst (λ (m : Notes). AreWritten (told_by m) (texts_by m) (sums_by m) (client_calls (name v) (texts v) calls) x.0) is x.1 in
        (x.0, subst (λ (m : Option (List ℕ)). AreWritten (told_by n) (texts_by n) (sums_by n) (client_calls m (texts v) calls) x.0) named by_notes, x.2)

    abbrev Left : Result DriveEnd DriveFault → V → Type 0
    Left end w = LeavesWritten made end (contents (editor v)) (contents (editor w))

    early : (end : Result DriveEnd DriveFault) (w : V) → v ≡ w → IsEarly (target_fault (input made)) end → Left end w
    early (Ok x) w same h = absurd h
    early (Err e) w same h = λ code is_code. (h, ap (λ (x : V). contents (editor x)) (sym same))

    closed : (count : ℕ) (w : V) → target_fault (input made) ≡ None → Leads Making (calls_of made) v w → Left (Ok (Closed count)) w
    closed count w target h =
        let x = sent (calls_of made) w h in
        (x.0, record { target = target; sent = x.1 }, x.2)

    halted : (s : Stop) (k : ℕ) (m w : V) (answer : Result (Unit {0}) EditFault) → target_fault (input made) ≡ None
        → Halts Making made.request.options.cancel_after k (calls_of made) v m k s → Making m AbortEdit answer w
        → LeavesSome s k (length (calls_of made)) → Left (end_of s k) w
    halted stop.Cancelled k m w answer target h given_up less =
        let front = stopped Making made.request.options.cancel_after k k (calls_of made) v m h in
        let x = sent (take k (calls_of made)) m front.0 in
        let same : contents (editor w) ≡ contents (editor m) = ap contents (abort_passed Writing editor held name texts m w answer given_up) in (
          x.0,
          record { asked = front.1; before_last = less; target = target; sent = x.1 },
          subst (λ (new : Option (List ℕ)). Appends (contents (editor v)) new x.0) (sym same) x.2,
        )
    halted stop.Full k m w answer target h given_up less = λ code is_code. absurd cc
    halted stop.Memory k m w answer target h given_up less = λ code is_code. absurd cc
    halted (stop.Editor fault) k m w answer target h given_up less = λ code is_code. absurd cc

    pub leaves_written : (end : Result DriveEnd DriveFault) (w : V)
        → Drives Making made.request.options.cancel_after (target_fault (input made)) (calls_of made) end v w → Left end w
    leaves_written end w (inl h) = early end w h.0 h.1
    leaves_written end w (inr (inl h)) = subst (λ (r : Result DriveEnd DriveFault). Left r w) (sym h.4) (closed h.0 w h.1 h.2)
    leaves_written end w (inr (inr h)) =
        subst (λ (r : Result DriveEnd DriveFault). Left r w) (sym h.5) (halted h.0 h.1 h.2 w h.6.0 h.3 h.4 h.6.1 h.7)

-- ---- a drive and its end

-- what the calls left written, and what was told after them
pub ends_drive : (d : Drive) (end : Result DriveEnd DriveFault) (driven : Driven) (a b c : Option (List ℕ)) → LeavesWritten d end a b → TellsEnd end driven b c
    → (bytes : List ℕ) × IsDrive d driven bytes × Appends a c bytes
ends_drive d (Ok (Closed n)) driven a b c left told = (
  left.0,
  subst (λ (x : Driven). IsDrive d x left.0) (sym told.0) left.1,
  subst (λ (x : Option (List ℕ)). Appends a x left.0) (sym told.1) left.2,
)
ends_drive d (Ok (Cancelled k)) driven a b c left told =
    let message = told.1.0 in
    let bytes = left.0 ++ failure 200015 message in
    let stop : IsStopped d bytes = record { made = k; calls = left.0; front = left.1; message = message; written = refl } in (
      bytes,
      subst (λ (x : Driven). IsDrive d x bytes) (sym told.0) (inl stop),
      Appends-trans a b c left.0 (failure 200015 message) left.2 told.1.1,
    )
ends_drive d (Err fault) driven a b c left told =
    let code = told.1.0 in
    let message = told.1.1 in
    let early = left code told.1.2 in
    let none : IsNone d (failure code message) =
    record { fault = fault; target = early.0; code = code; is_code = told.1.2; message = message; written = refl } in (
      failure code message,
      subst (λ (x : Driven). IsDrive d x (failure code message)) (sym told.0) (inr none),
      subst (λ (x : Option (List ℕ)). Appends x c (failure code message)) early.1 told.1.3,
    )
