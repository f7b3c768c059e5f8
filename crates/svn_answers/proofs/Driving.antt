-- Drives that are made to their end, and why others aren't.
use Rattle.std.proofs.Common.{◌≡◌, ℕ, zero, suc, ◌+◌, ◌<◌, List, [], ◌∷◌, ◌++◌, length, append-nil, append_assoc, refl, sym, ap, subst, ⊎_elim, inl, inr, ◌∙◌}
use Rattle.std.specs.Prelude.{◌≢◌, ◌⊎◌, Option, Some, None, Result, Ok, Err}
use Rattle.svn_editor.specs.declared.call.Call.{Call}
use Rattle.svn_editor.specs.declared.fault.EditFault.{EditFault}
use Rattle.svn_editor.specs.Editing.{Leads}
use Rattle.svn_model.specs.declared.stop.Stop.{Stop}
use Rattle.svn_model.specs.declared.stop.Stop.TheVariants.{Cancelled, Full, Memory, Editor}
use Rattle.svn_model.specs.declared.drive_end.DriveEnd.{DriveEnd}
use Rattle.svn_model.specs.declared.drive_end.DriveEnd.TheVariants.{Closed}
use Rattle.svn_model.specs.declared.drive_fault.DriveFault.{DriveFault}
use Rattle.svn_model.specs.declared.drive_fault.DriveFault.TheVariants.{Memory as NoMemory, Full as NoNumber, Editor as Refused}
use Rattle.svn_editor.specs.declared.call.Call.TheVariants.{AbortEdit}
use Rattle.svn_model.specs.Ends.{Halts, Drives, IsEarly, IsWithin, LeavesSome, StopsBefore, call_limit, end_of}

abbrev no_limit : Option ℕ
no_limit = None

abbrev ended : DriveEnd → Result DriveEnd DriveFault
ended x = Ok x

abbrev stopped : DriveFault → Result DriveEnd DriveFault
stopped x = Err x

-- why a drive isn't made to its end, where one call is refused or none is
pub data WhyStopped (target : Option DriveFault) (calls : List Call) (Refuses : EditFault → Type 0) (x : DriveFault) : Type 0 where
  bad_target : target ≡ Some x → WhyStopped target calls Refuses x
  no_memory : x ≡ NoMemory → WhyStopped target calls Refuses x
  too_many : x ≡ NoNumber → call_limit + 1 < length calls → WhyStopped target calls Refuses x
  refused : (why : EditFault) → x ≡ Refused why → Refuses why → WhyStopped target calls Refuses x

module _ {E : Type 0} (answers : E → Call → Result (Unit {0}) EditFault → E → Type 0) where
  -- no number is given after which the drive must be given up
  never_given_up : (k : ℕ) (calls : List Call) (e m : E) (made : ℕ) → Halts answers no_limit k calls e m made Cancelled → ⊥
  never_given_up zero [] e m made h =
      let is : Cancelled ≡ Memory = h.1 in
      absurd cc
  never_given_up zero (c ∷ calls) e m made h =
      ⊎_elim
      (λ (t : (e ≡ m) × (no_limit ≡ Some made)).
      let is = t.1 in
      absurd cc)
      (λ (t : (fault : EditFault) × answers e c (Err fault) m × (Cancelled ≡ Editor fault) × (no_limit ≢ Some made)).
      let is = t.2 in
      absurd cc)
      h
  never_given_up (suc k) [] e m made h = h
  never_given_up (suc k) (c ∷ calls) e m made h = never_given_up k calls h.0 m made h.2

  -- each other stop is a fault
  never_stopped : (s : Stop) (k : ℕ) (calls : List Call) (e m : E) (x : DriveEnd) → Halts answers no_limit k calls e m k s → ended x ≡ end_of s k → ⊥
  never_stopped Cancelled k calls e m x h is = never_given_up k calls e m k h
  never_stopped Full k calls e m x h is = absurd cc
  never_stopped Memory k calls e m x h is = absurd cc
  never_stopped (Editor fault) k calls e m x h is = absurd cc

  abbrev Whole : Option DriveFault → List Call → DriveEnd → E → E → Type 0
  Whole fault calls x e f = (n : ℕ) × (fault ≡ None) × Leads answers calls e f × (n ≡ length calls) × (ended x ≡ ended (Closed n)) × IsWithin no_limit n

  abbrev Stops : Option DriveFault → List Call → DriveEnd → E → E → Type 0
  Stops fault calls x e f = (s : Stop) × (k : ℕ) × (m : E) × (fault ≡ None) × Halts answers no_limit k calls e m k s × (ended x ≡ end_of s k)
      × ((answer : Result (Unit {0}) EditFault) × answers m AbortEdit answer f) × LeavesSome s k (length calls) × IsWithin no_limit k

  -- a drive without such a number that ends without a fault made all calls
  all_made : (fault : Option DriveFault) (calls : List Call) (x : DriveEnd) (e f : E) → Drives answers no_limit fault calls (ended x) e f
      → Leads answers calls e f
  all_made fault calls x e f drove =
      ⊎_elim (λ (t : (e ≡ f) × IsEarly fault (ended x)). absurd t.1)
      (λ (u : Whole fault calls x e f ⊎ Stops fault calls x e f).
      ⊎_elim (λ (t : Whole fault calls x e f). t.2)
      (λ (t : Stops fault calls x e f). absurd (never_stopped t.0 t.1 calls e t.2 x t.4 t.5)) u) drove

  -- a drive that ends without a fault has a target
  pub has_target : (limit : Option ℕ) (fault : Option DriveFault) (calls : List Call) (x : DriveEnd) (e f : E)
      → Drives answers limit fault calls (ended x) e f → fault ≡ None
  has_target limit fault calls x e f (inl early) = absurd early.1
  has_target limit fault calls x e f (inr (inl whole)) = whole.1
  has_target limit fault calls x e f (inr (inr stop)) = stop.3

  -- a call that is refused, after those that were accepted
  pub record RefusedCall (calls : List Call) (e : E) (why : EditFault) : Type 0 where
    pub before : List Call
    pub call : Call
    pub rest : List Call
    pub calls_are : calls ≡ before ++ call ∷ rest
    pub mid : E
    pub after : E
    pub leads : Leads answers before e mid
    pub refuses : answers mid call (Err why) after

  refused_by : (k : ℕ) (calls : List Call) (e m : E) (made : ℕ) (why : EditFault) → Halts answers no_limit k calls e m made (Editor why)
      → RefusedCall calls e why
  refused_by zero [] e m made why h =
      let is : Editor why ≡ Memory = h.1 in
      absurd cc
  refused_by zero (c ∷ calls) e m made why h =
      ⊎_elim (λ (t : (e ≡ m) × StopsBefore no_limit made (Editor why)). absurd t.1)
      (λ (t : (fault : EditFault) × answers e c (Err fault) m × (Editor why ≡ Editor fault) × (no_limit ≢ Some made)).
      let is : t.0 ≡ why = (let same : Editor why ≡ Editor t.0 = t.2 in cc) in
      record {
        before = [];
        call = c;
        rest = calls;
        calls_are = refl;
        mid = e;
        after = m;
        leads = refl;
        refuses = subst (λ (x : EditFault). answers e c (Err x) m) is t.1;
      })
      h
  refused_by (suc k) [] e m made why h = absurd h
  refused_by (suc k) (c ∷ calls) e m made why h =
      let r : RefusedCall calls h.0 why = refused_by k calls h.0 m made why h.2 in
      record {
        before = c ∷ r.before;
        call = r.call;
        rest = r.rest;
        calls_are = ap (λ (l : List Call). c ∷ l) r.calls_are;
        mid = r.mid;
        after = r.after;
        leads = (h.0, h.1, r.leads);
        refuses = r.refuses;
      }

  -- the numbers run out at that many calls alone
  full_at : (k : ℕ) (calls : List Call) (e m : E) (made : ℕ) → Halts answers no_limit k calls e m made Full → made ≡ call_limit
  full_at zero [] e m made h =
      let is : Full ≡ Memory = h.1 in
      absurd cc
  full_at zero (c ∷ calls) e m made h =
      ⊎_elim (λ (t : (e ≡ m) × StopsBefore no_limit made Full). t.1)
      (λ (t : (fault : EditFault) × answers e c (Err fault) m × (Full ≡ Editor fault) × (no_limit ≢ Some made)).
      let is = t.2 in
      absurd cc)
      h
  full_at (suc k) [] e m made h = absurd h
  full_at (suc k) (c ∷ calls) e m made h = full_at k calls h.0 m made h.2

  why_halted : (target : Option DriveFault) (s : Stop) (k : ℕ) (calls : List Call) (e m : E) (x : DriveFault)
      → Halts answers no_limit k calls e m k s → stopped x ≡ end_of s k → LeavesSome s k (length calls)
      → WhyStopped target calls (RefusedCall calls e) x
  why_halted target Cancelled k calls e m x h is some = absurd (never_given_up k calls e m k h)
  why_halted target Full k calls e m x h is some =
      too_many (cc) (subst (λ (n : ℕ). n + 1 < length calls) (full_at k calls e m k h) some)
  why_halted target Memory k calls e m x h is some = no_memory (cc)
  why_halted target (Editor why) k calls e m x h is some = refused why (cc) (refused_by k calls e m k why h)

  abbrev StopsWith : Option DriveFault → List Call → DriveFault → E → E → Type 0
  StopsWith fault calls x e f = (s : Stop) × (k : ℕ) × (m : E) × (fault ≡ None) × Halts answers no_limit k calls e m k s × (stopped x ≡ end_of s k)
      × ((answer : Result (Unit {0}) EditFault) × answers m AbortEdit answer f) × LeavesSome s k (length calls) × IsWithin no_limit k

  abbrev WholeWith : Option DriveFault → List Call → DriveFault → E → E → Type 0
  WholeWith fault calls x e f = (n : ℕ) × (fault ≡ None) × Leads answers calls e f × (n ≡ length calls) × (stopped x ≡ ended (Closed n)) × IsWithin no_limit n

  -- a drive without such a number that ends with a fault
  pub why_stopped : (limit : Option ℕ) (target : Option DriveFault) (calls : List Call) (x : DriveFault) (e f : E) → limit ≡ no_limit
      → Drives answers limit target calls (stopped x) e f → WhyStopped target calls (RefusedCall calls e) x
  why_stopped limit target calls x e f none drove =
      ⊎_elim (λ (t : (e ≡ f) × IsEarly target (stopped x)). bad_target t.1)
      (λ (u : WholeWith target calls x e f ⊎ StopsWith target calls x e f).
      ⊎_elim
      (λ (t : WholeWith target calls x e f).
      let is = t.4 in
      absurd cc)
      (λ (t : StopsWith target calls x e f). why_halted target t.0 t.1 calls e t.2 x t.4 t.5 t.7) u)
      (subst (λ (n : Option ℕ). Drives answers n target calls (stopped x) e f) none drove)

  -- what each accepted call keeps of the calls before it, all of them keep
  pub kept : (P : E → List Call → Type 0) → ((e f : E) (c : Call) (before : List Call) → answers e c (Ok tt) f → P e before → P f (before ++ c ∷ []))
      → (calls before : List Call) (e f : E) → Leads answers calls e f → P e before → P f (before ++ calls)
  kept P step [] before e f led at = subst (λ (z : E). P z (before ++ [])) led (subst (P e) (sym (append-nil before)) at)
  kept P step (c ∷ calls) before e f led at =
      subst (P f) (append_assoc before (c ∷ []) calls) (kept P step calls (before ++ c ∷ []) led.0 f led.2 (step e led.0 c before led.1 at))

  -- what each accepted call keeps of the calls before it, a drive to its end does
  pub all_kept : (P : E → List Call → Type 0) → ((e f : E) (c : Call) (before : List Call) → answers e c (Ok tt) f → P e before → P f (before ++ c ∷ []))
      → (limit : Option ℕ) (fault : Option DriveFault) (calls : List Call) (x : DriveEnd) (e f : E) → limit ≡ no_limit
      → Drives answers limit fault calls (ended x) e f → P e [] → P f calls
  all_kept P step limit fault calls x e f none drove at =
      kept P step calls [] e f (all_made fault calls x e f (subst (λ (n : Option ℕ). Drives answers n fault calls (ended x) e f) none drove)) at

-- one more call is recorded
pub one_more : (e f before : List Call) (c : Call) → f ≡ e ++ c ∷ [] → e ≡ before → f ≡ before ++ c ∷ []
one_more e f before c one at = one ∙ ap (λ (l : List Call). l ++ c ∷ []) at
