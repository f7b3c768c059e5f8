-- Where a driver stopped: that many calls of its list were accepted, and the next was refused or not made.
use Rattle.std.proofs.Common.{◌≡◌, ℕ, zero, suc, ◌<◌, List, [], ◌∷◌, length, take, refl, sym, subst, inl, inr, ⊎_elim, arith}
use Rattle.std.specs.Prelude.{◌≢◌, ◌⊎◌, Option, Some, None, Result, Ok, Err, slice_get}
use Rattle.svn_editor.specs.declared.call.Call.{Call}
use Rattle.svn_editor.specs.declared.fault.EditFault.{EditFault}
use Rattle.svn_editor.specs.Editing.{Leads}
use Rattle.svn_model.specs.declared.stop.Stop.{Stop}
use Rattle.svn_model.specs.declared.stop.Stop.TheVariants.{Cancelled, Full, Memory, Editor}
use Rattle.svn_model.specs.declared.drive_end.DriveEnd.{DriveEnd}
use Rattle.svn_model.specs.declared.drive_fault.DriveFault.{DriveFault}
use Rattle.svn_model.specs.Ends.{StopsBefore, LeavesSome, Halts, IsEarly}

-- where the target has no fault, no drive ends before its first call
pub never_early : (result : Result DriveEnd DriveFault) → IsEarly None result → ⊥
never_early (Ok x) h = h
never_early (Err e) h = absurd cc

-- a stop comes before the last call was accepted
pub one_left : (s : Stop) (made all : ℕ) → LeavesSome s made all → made < all
one_left Cancelled made all h = h
one_left Full made all h = omega arith
one_left Memory made all h = h
one_left (Editor fault) made all h = h

module _ {E : Type 0} (answers : E → Call → Result (Unit {0}) EditFault → E → Type 0) (limit : Option ℕ) where
  -- the call after the first k was refused
  pub record RefusedAt (k : ℕ) (calls : List Call) (x m : E) (made : ℕ) (s : Stop) : Type 0 where
    pub call : Call
    pub fault : EditFault
    pub within : k < length calls
    pub place : slice_get calls k ≡ Some call
    pub refused : answers x call (Err fault) m
    pub stop : s ≡ Editor fault
    pub below : limit ≢ Some made

  abbrev pub StoppedAt : ℕ → List Call → E → E → E → ℕ → Stop → Type 0
  StoppedAt k calls e x m made s = Leads answers (take k calls) e x × (((x ≡ m) × StopsBefore limit made s) ⊎ RefusedAt k calls x m made s)

  deeper : (k : ℕ) (c : Call) (calls : List Call) (x m : E) (made : ℕ) (s : Stop) → RefusedAt k calls x m made s
      → RefusedAt (suc k) (c ∷ calls) x m made s
  deeper k c calls x m made s r = record {
    call = r.call;
    fault = r.fault;
    within = let lt = r.within in
        omega arith;
    place = r.place;
    refused = r.refused;
    stop = r.stop;
    below = r.below;
  }

  pub stopped : (k : ℕ) (calls : List Call) (e m : E) (made : ℕ) (s : Stop) → Halts answers limit k calls e m made s
      → (x : E) × StoppedAt k calls e x m made s
  stopped zero [] e m made s h = (e, (refl, inl (h.0, subst (StopsBefore limit made) (sym h.1) tt)))
  stopped zero (c ∷ calls) e m made s h =
      ⊎_elim
      (λ (t : (e ≡ m) × StopsBefore limit made s). (e, (refl, inl t)))
      (λ (t : (fault : EditFault) × answers e c (Err fault) m × (s ≡ Editor fault) × (limit ≢ Some made)).
      (e, (refl, inr (record { call = c; fault = t.0; within = omega arith; place = refl; refused = t.1; stop = t.2; below = t.3 }))))
      h
  stopped (suc k) [] e m made s h = absurd h
  stopped (suc k) (c ∷ calls) e m made s h =
      let r = stopped k calls h.0 m made s h.2 in (
        r.0,
        (
          (h.0, h.1, r.1.0),
          ⊎_elim (λ (t : (r.0 ≡ m) × StopsBefore limit made s). inl t)
              (λ (t : RefusedAt k calls r.0 m made s). inr (deeper k c calls r.0 m made s t)) r.1.1,
        ),
      )
