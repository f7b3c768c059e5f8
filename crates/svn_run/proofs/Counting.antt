-- What a drive makes of a copy, through a carrier that counts.
use Rattle.std.proofs.Common.{◌≡◌, ◌≢◌, ℕ, zero, suc, ◌+◌, ◌<◌, ◌≤◌, true, false, true≢false, List, [], ◌∷◌, ◌++◌, length, take, append-nil, append_assoc}
use Rattle.std.proofs.Common.{refl, sym, ap, subst, ◌∙◌, ⊎_elim, arith}
use Rattle.std.specs.Prelude.{◌⊎◌, Option, Some, None, IfSome, Result, Ok, Err}
use Rattle.md5.specs.Md5.{md5}
use Rattle.std.proofs.Math.Seq.{take-length}
use Rattle.std.proofs.lemmas.List.{length-take-le}
use Rattle.svn_types.specs.Names.{Path}
use Rattle.svn_editor.specs.declared.call.Call.{Call}
use Rattle.svn_editor.specs.declared.call.Call.TheVariants.{AbortEdit}
use Rattle.svn_editor.specs.declared.fault.EditFault.{EditFault}
use Rattle.svn_editor.specs.Calls.{is_abort}
use Rattle.svn_editor.specs.Editing.{Leads}
use Rattle.svn_editor.specs.declared.mode.Mode.{Mode}
use Rattle.svn_edit.specs.declared.pending.Pending.{Pending}
use Rattle.svn_edit.specs.Carrying.{CarriedOut, Carries}
use Rattle.law_copy.specs.Laws.{calls_are_applied_in_turn}
use Rattle.svn_model.specs.declared.stop.Stop.{Stop}
use Rattle.svn_model.specs.declared.stop.Stop.TheVariants as stop
use Rattle.svn_model.specs.declared.drive_end.DriveEnd.{DriveEnd}
use Rattle.svn_model.specs.declared.drive_end.DriveEnd.TheVariants.{Closed as AllMade}
use Rattle.svn_model.specs.declared.drive_fault.DriveFault.{DriveFault}
use Rattle.svn_model.specs.declared.drive_fault.DriveFault.TheVariants.{Editor as Refused, Full as NoNumber, Memory as NoMemory}
use Rattle.svn_model.specs.Ends.{StopsBefore, LeavesSome, Halts, IsWithin, IsEarly, Drives, end_of}
use Rattle.svn_model.specs.Nodes.{WorkingCopy, get_in}
use Rattle.svn_model.specs.Effects.{after, AllAcceptedFrom, AllAccepted}
use Rattle.svn_run.specs.UpdateTheorem.{Nodes}
use Rattle.svn_run.specs.Counts.{Stays, CountsCall}
use Rattle.svn_run.specs.Coming.{CameInTurn, turn_outcome}
use Rattle.svn_run.proofs.Accepting.{accepted_first, accepted_rest, accepted_next}
use Rattle.svn_run.proofs.Halting.{never_early, one_left, RefusedAt, stopped}
use Rattle.svn_run.proofs.Causes.{cause_fits}

abbrev no_fault : Option DriveFault
no_fault = None

-- none of the calls is an `AbortEdit`
abbrev pub AllInner : List Call → Type 0
AllInner [] = Unit {0}
AllInner (c ∷ calls) = (is_abort c ≡ false) × AllInner calls

pub inner-take : (k : ℕ) (calls : List Call) → AllInner calls → AllInner (take k calls)
inner-take zero calls h = tt
inner-take (suc k) [] h = tt
inner-take (suc k) (c ∷ calls) h = (h.0, inner-take k calls h.1)

both_ways : {A : Type 0} (c : Call) → is_abort c ≡ false → is_abort c ≡ true → A
both_ways c inner abort = absurd (true≢false (sym abort ∙ inner))

pub some_within : (limit : Option ℕ) (made : ℕ) → IsWithin limit made → IfSome limit (λ n. made ≤ n)
some_within None made h = tt
some_within (Some n) made h = h n refl

some_below : (limit : Option ℕ) (made : ℕ) → IsWithin limit made → limit ≢ Some made → IfSome limit (λ n. made + 1 ≤ n)
some_below None made h ne = tt
some_below (Some n) made h ne = let le = h n refl in let other : n ≢ made = λ q. ne (ap (λ x. Some x) q) in omega arith

module _ {E : Type 0} (answers : E → Call → Result (Unit {0}) EditFault → E → Type 0) (mode_of : E → Mode) (edit : E → Pending)
    (nodes : E → Nodes) (made accepted : E → ℕ)
    (counts : (e : E) (c : Call) (r : Result (Unit {0}) EditFault) (f : E) → answers e c r f
    → CountsCall (mode_of e) (edit e) (nodes e) (made e) (accepted e) c r (edit f) (nodes f) (made f) (accepted f)
    × (mode_of f ≡ mode_of e))
    (more : calls_are_applied_in_turn) (mode : Mode) (w0 : WorkingCopy) where
  -- that many calls were made and accepted
  pub record Standing (n : ℕ) (calls : List Call) (e : E) : Type 0 where
    pub carried : CarriedOut mode w0 (edit e) (nodes e) calls
    pub mode_is : mode_of e ≡ mode
    pub made_is : made e ≡ n
    pub accepted_is : accepted e ≡ n

  abbrev Same : E → E → Type 0
  Same e f = Stays (edit e) (nodes e) (made e) (accepted e) (edit f) (nodes f) (made f) (accepted f)

  -- a call was applied
  abbrev Carried : E → Call → E → Type 0
  Carried e c f = (is_abort c ≡ false) × Carries (mode_of e) (edit e) (nodes e) c (Ok tt) (edit f) (nodes f) × (made f ≡ made e + 1)
      × (accepted f ≡ accepted e + 1)

  -- or it wasn't
  abbrev Failed : E → Call → EditFault → E → Type 0
  Failed e c fault f = (is_abort c ≡ false) × Carries (mode_of e) (edit e) (nodes e) c (Err fault) (edit f) (nodes f) × (made f ≡ made e + 1)
      × (accepted f ≡ accepted e)

  was_carried : (e : E) (c : Call) (f : E) → is_abort c ≡ false → answers e c (Ok tt) f → Carried e c f
  was_carried e c f inner h =
      ⊎_elim (λ (t : (is_abort c ≡ true) × Same e f). both_ways c inner t.0) (λ (t : Carried e c f). t) (counts e c (Ok tt) f h).0

  -- giving up leaves all as it is
  stays : (e f : E) (answer : Result (Unit {0}) EditFault) → answers e AbortEdit answer f → Same e f
  stays e f (Ok done) h =
      ⊎_elim (λ (t : (is_abort AbortEdit ≡ true) × Same e f). t.1) (λ (t : Carried e AbortEdit f). both_ways AbortEdit t.0 refl)
      (counts e AbortEdit (Ok done) f h).0
  stays e f (Err fault) h =
      ⊎_elim (λ (t : Same e f). t) (λ (t : Failed e AbortEdit fault f). both_ways AbortEdit t.0 refl)
      (counts e AbortEdit (Err fault) f h).0

  led : (xs cs : List Call) (n : ℕ) (e f : E) → AllInner xs → AllAcceptedFrom md5 mode cs (after mode w0 cs) xs → Leads answers xs e f
      → Standing n cs e → Standing (n + length xs) (cs ++ xs) f
  led [] cs n e f all accept h s =
      let same : Standing n cs f = subst (λ x. Standing n cs x) h s in
      record {
        carried = subst (λ l. CarriedOut mode w0 (edit f) (nodes f) l) (sym (append-nil cs)) same.carried;
        mode_is = same.mode_is;
        made_is = let q = same.made_is in omega arith;
        accepted_is = let q = same.accepted_is in omega arith;
      }
  led (x ∷ xs) cs n e f all accept h s =
      let c = was_carried e x h.0 all.0 h.1 in
      let was_made = s.made_is in
      let was_accepted = s.accepted_is in
      let now_made = c.2 in
      let now_accepted = c.3 in
      let next : Standing (n + 1) (cs ++ x ∷ []) h.0 = record {
        carried = accepted_next mode w0 cs (edit e) (nodes e) x (edit h.0) (nodes h.0)
            (subst (λ (m : Mode). Carries m (edit e) (nodes e) x (Ok tt) (edit h.0) (nodes h.0)) s.mode_is c.1) s.carried accept.0;
        mode_is = (counts e x (Ok tt) h.0 h.1).1 ∙ s.mode_is;
        made_is = omega arith;
        accepted_is = omega arith;
      } in
      let rest = led xs (cs ++ x ∷ []) (n + 1) h.0 f all.1 (accepted_rest more mode w0 cs x xs accept) h.2 next in
      let rest_made = rest.made_is in
      let rest_accepted = rest.accepted_is in
      record {
        carried = subst (λ l. CarriedOut mode w0 (edit f) (nodes f) l) (append_assoc cs (x ∷ []) xs) rest.carried;
        mode_is = rest.mode_is;
        made_is = omega arith;
        accepted_is = omega arith;
      }

  module _ (drive : List Call) (all : AllInner drive) (accept : AllAccepted md5 mode w0 drive) (limit : Option ℕ) (e : E)
      (begun : Standing 0 [] e) where
    -- the copy is what the first k calls leave, which were counted; that many were made
    record Left (k n : ℕ) (f : E) : Type 0 where
      copy : (p : Path) → get_in (nodes f) p ≡ after mode w0 (take k drive) p
      made_is : made f ≡ n
      accepted_is : accepted f ≡ k

    first_calls : (k : ℕ) (x : E) → k ≤ length drive → Leads answers (take k drive) e x → Standing k (take k drive) x
    first_calls k x le h =
        let s = led (take k drive) [] 0 e x (inner-take k drive all) (accepted_first mode k [] w0 drive accept) h begun in
        let long : 0 + length (take k drive) ≡ k = let l = length-take-le k drive le in omega arith in
        subst (λ n. Standing n (take k drive) x) long s

    -- where the copy is so, it is so after giving up
    given_up : (k n : ℕ) (m f : E) (answer : Result (Unit {0}) EditFault) → Left k n m → answers m AbortEdit answer f → Left k n f
    given_up k n m f answer l h =
        let same = stays m f answer h in
        record {
          copy = λ p. ap (λ (x : Nodes). get_in x p) same.1 ∙ l.copy p;
          made_is = same.2 ∙ l.made_is;
          accepted_is = same.3 ∙ l.accepted_is;
        }

    left : (k : ℕ) (m : E) → Standing k (take k drive) m → Left k k m
    left k m s = record { copy = s.carried.copy; made_is = s.made_is; accepted_is = s.accepted_is }

    -- the outcome that is returned at a stop which isn't the cancel number
    for_memory : (k n : ℕ) (f : E) (fault : DriveFault) → k < length drive → k ≤ n → n ≤ k + 1 → IfSome limit (λ x. n ≤ x) → Left k n f
        → CameInTurn drive mode limit w0 (nodes f) (turn_outcome limit (Err fault) (made f) (accepted f))
    for_memory k n f fault part le most within l =
        let is_made = l.made_is in
        let is_accepted = l.accepted_is in
        record {
          came = record {
            copy = λ p. l.copy p ∙ ap (λ j. after mode w0 (take j drive) p) (sym is_accepted);
            accepted = omega arith;
            made = omega arith;
            closed = tt;
            aborted = omega arith;
            within = subst (λ j. IfSome limit (λ x. j ≤ x)) (sym is_made) within;
            cancelled = cause_fits limit (made f) (accepted f) (length drive) (omega arith);
            cause = refl;
            late = tt;
          };
          one_more = omega arith;
        }

    cancelled : (k : ℕ) (f : E) → k < length drive → IsWithin limit k → limit ≡ Some k → Left k k f
        → CameInTurn drive mode limit w0 (nodes f) (turn_outcome limit (end_of stop.Cancelled k) (made f) (accepted f))
    cancelled k f lt within number l =
        let is_made = l.made_is in
        let is_accepted = l.accepted_is in
        record {
          came = record {
            copy = λ p. l.copy p ∙ ap (λ j. after mode w0 (take j drive) p) (sym is_accepted);
            accepted = omega arith;
            made = omega arith;
            closed = tt;
            aborted = omega arith;
            within = subst (λ j. IfSome limit (λ x. j ≤ x)) (sym is_made) (some_within limit k within);
            cancelled = cause_fits limit (made f) (accepted f) (length drive) (omega arith);
            cause = refl;
            late = tt;
          };
          one_more = omega arith;
        }

    own_stop : (s : Stop) (k : ℕ) (f : E) → k < length drive → IsWithin limit k → StopsBefore limit k s → Left k k f
        → CameInTurn drive mode limit w0 (nodes f) (turn_outcome limit (end_of s k) (made f) (accepted f))
    own_stop stop.Cancelled k f lt within why l = cancelled k f lt within why l
    own_stop stop.Full k f lt within why l = for_memory k k f NoNumber lt (omega arith) (omega arith) (some_within limit k within) l
    own_stop stop.Memory k f lt within why l = for_memory k k f NoMemory lt (omega arith) (omega arith) (some_within limit k within) l
    own_stop (stop.Editor fault) k f lt within why l = absurd why

    refused : (s : Stop) (k : ℕ) (x m f : E) (answer : Result (Unit {0}) EditFault) → k < length drive → IsWithin limit k
        → Standing k (take k drive) x → RefusedAt answers limit k drive x m k s → answers m AbortEdit answer f
        → CameInTurn drive mode limit w0 (nodes f) (turn_outcome limit (end_of s k) (made f) (accepted f))
    refused s k x m f answer lt within st r h =
        let was_made = st.made_is in
        let was_accepted = st.accepted_is in
        subst (λ z. CameInTurn drive mode limit w0 (nodes f) (turn_outcome limit (end_of z k) (made f) (accepted f))) (sym r.stop)
        (⊎_elim
        (λ (t : Same x m).
        let l : Left k k m = record {
          copy = λ p. ap (λ (n : Nodes). get_in n p) t.1 ∙ st.carried.copy p;
          made_is = t.2 ∙ st.made_is;
          accepted_is = t.3 ∙ st.accepted_is;
        } in
        for_memory k k f (Refused r.fault) lt (omega arith) (omega arith) (some_within limit k within) (given_up k k m f answer l h))
        (λ (t : Failed x r.call r.fault m).
        let now_made = t.2 in
        let now_accepted = t.3 in
        let l : Left k (k + 1) m = record {
          copy = λ p. ap (λ (n : Nodes). get_in n p) t.1.refused ∙ st.carried.copy p;
          made_is = omega arith;
          accepted_is = omega arith;
        } in
        for_memory k (k + 1) f (Refused r.fault) lt (omega arith) (omega arith) (some_below limit k within r.below)
        (given_up k (k + 1) m f answer l h))
        (counts x r.call (Err r.fault) m r.refused).0)

    whole : (n : ℕ) (f : E) → Leads answers drive e f → n ≡ length drive → IsWithin limit n
        → CameInTurn drive mode limit w0 (nodes f) (turn_outcome limit (Ok (AllMade n)) (made f) (accepted f))
    whole n f h long within =
        let s = led drive [] 0 e f all accept h begun in
        record {
          came = record {
            copy = λ p. s.carried.copy p ∙ ap (λ l. after mode w0 l p) (sym (ap (λ j. take j drive) long ∙ take-length drive));
            accepted = omega arith;
            made = omega arith;
            closed = long;
            aborted = tt;
            within = some_within limit n within;
            cancelled = tt;
            cause = tt;
            late = tt;
          };
          one_more = omega arith;
        }

    halted : (s : Stop) (k : ℕ) (m f : E) (answer : Result (Unit {0}) EditFault) → Halts answers limit k drive e m k s
        → answers m AbortEdit answer f → k < length drive → IsWithin limit k
        → CameInTurn drive mode limit w0 (nodes f) (turn_outcome limit (end_of s k) (made f) (accepted f))
    halted s k m f answer halts h lt within =
        let r = stopped answers limit k drive e m k s halts in
        let st = first_calls k r.0 (omega arith) r.1.0 in
        ⊎_elim
        (λ (t : (r.0 ≡ m) × StopsBefore limit k s). own_stop s k f lt within t.1
        (given_up k k m f answer (left k m (subst (λ z. Standing k (take k drive) z) t.0 st)) h))
        (λ (t : RefusedAt answers limit k drive r.0 m k s). refused s k r.0 m f answer lt within st t h)
        r.1.1

    abbrev Whole : Result DriveEnd DriveFault → E → Type 0
    Whole result f = (n : ℕ) × (no_fault ≡ None) × Leads answers drive e f × (n ≡ length drive)
        × (result ≡ Ok (AllMade n)) × IsWithin limit n

    abbrev Stops : Result DriveEnd DriveFault → E → Type 0
    Stops result f = (s : Stop) × (k : ℕ) × (m : E) × (no_fault ≡ None) × Halts answers limit k drive e m k s × (result ≡ end_of s k)
        × ((answer : Result (Unit {0}) EditFault) × answers m AbortEdit answer f) × LeavesSome s k (length drive) × IsWithin limit k

    pub came : (result : Result DriveEnd DriveFault) (f : E) → Drives answers limit None drive result e f
        → CameInTurn drive mode limit w0 (nodes f) (turn_outcome limit result (made f) (accepted f))
    came result f drove =
        ⊎_elim
        (λ (t : (e ≡ f) × IsEarly None result). absurd (never_early result t.1))
        (λ (u : Whole result f ⊎ Stops result f).
        ⊎_elim
        (λ (t : Whole result f). subst (λ z. CameInTurn drive mode limit w0 (nodes f) (turn_outcome limit z (made f) (accepted f))) (sym t.4)
        (whole t.0 f t.2 t.3 t.5))
        (λ (t : Stops result f). subst (λ z. CameInTurn drive mode limit w0 (nodes f) (turn_outcome limit z (made f) (accepted f))) (sym t.5)
        (halted t.0 t.1 t.2 f t.6.0 t.4 t.6.1 (one_left t.0 t.1 (length drive) t.7) t.8))
        u)
        drove
