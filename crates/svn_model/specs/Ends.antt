-- How a driver's calls of an editor end: all are made, or those up to where it stops.
--     Runs answers limit calls result e f made made'      the calls lead from e to f, or up to a stop; made' - made of them were accepted,
--                                                         and the limit isn't passed
--     LeavesSome stop made all      that many of all calls were accepted, and what is left is enough for that stop
--     Drives answers limit fault calls result e f      a whole drive: no call, or all, or those up to a stop and AbortEdit
use Rattle.std.specs.Prelude.{◌≡◌, ◌≢◌, ℕ, zero, suc, ◌+◌, ◌-◌, ◌^◌, ◌<◌, ◌≤◌, List, [], ◌∷◌, length, ◌⊎◌}
use Rattle.std.specs.Prelude.{Option, Some, None, Result, Ok, Err}
use Rattle.svn_editor.specs.declared.call.Call.{Call}
use Rattle.svn_editor.specs.declared.fault.EditFault.{EditFault}
use Rattle.svn_editor.specs.Editing.{Leads}
use Rattle.svn_model.specs.declared.stop.Stop.{Stop}
use Rattle.svn_model.specs.declared.stop.Stop.TheVariants.{Cancelled, Full, Memory, Editor}
use Rattle.svn_model.specs.declared.drive_end.DriveEnd.{DriveEnd}
use Rattle.svn_model.specs.declared.drive_end.DriveEnd.TheVariants.{Closed, Cancelled as GivenUp}
use Rattle.svn_model.specs.declared.drive_fault.DriveFault.{DriveFault}
use Rattle.svn_model.specs.declared.drive_fault.DriveFault.TheVariants.{Memory as NoMemory, Full as NoNumber, Editor as Refused}
use Rattle.svn_editor.specs.declared.call.Call.TheVariants.{AbortEdit}

-- the most calls before the last
abbrev pub call_limit : ℕ
call_limit = 2 ^ 64 - 2

-- why a driver stops of itself, once that many calls were accepted
abbrev pub StopsBefore : Option ℕ → ℕ → Stop → Type 0
StopsBefore limit made Cancelled = limit ≡ Some made
StopsBefore limit made Full = made ≡ call_limit
StopsBefore limit made Memory = Unit {0}
StopsBefore limit made (Editor fault) = ⊥

-- not past the number of calls after which the drive must be given up
abbrev pub IsWithin : Option ℕ → ℕ → Type 0
IsWithin limit made = (n : ℕ) → limit ≡ Some n → made ≤ n

-- that many calls more are accepted, which don't go past that number
abbrev pub Makes : Option ℕ → ℕ → ℕ → ℕ → Type 0
Makes limit made k after = (after ≡ made + k) × (IsWithin limit made → IsWithin limit after)

module _ {E : Type 0} (answers : E → Call → Result (Unit {0}) EditFault → E → Type 0) (limit : Option ℕ) where
  -- the next call isn't made, or it is refused; after the last of them only Memory can be the fault
  abbrev pub HaltsHere : List Call → E → E → ℕ → Stop → Type 0
  HaltsHere [] e f made s = (e ≡ f) × (s ≡ Memory)
  HaltsHere (c ∷ calls) e f made s =
      ((e ≡ f) × StopsBefore limit made s)
      ⊎ ((fault : EditFault) × answers e c (Err fault) f × (s ≡ Editor fault) × (limit ≢ Some made))

  -- that many of the calls are accepted, and then the driver stops
  abbrev pub Halts : ℕ → List Call → E → E → ℕ → Stop → Type 0
  Halts zero calls e f made s = HaltsHere calls e f made s
  Halts (suc k) [] e f made s = ⊥
  Halts (suc k) (c ∷ calls) e f made s = (m : E) × answers e c (Ok tt) m × Halts k calls m f made s

  abbrev pub Runs : {X : Type 0} → List Call → Result X Stop → E → E → ℕ → ℕ → Type 0
  Runs {X} calls (Ok x) e f made after = Leads answers calls e f × Makes limit made (length calls) after
  Runs {X} calls (Err s) e f made after = (k : ℕ) × Makes limit made k after × Halts k calls e f after s

-- ---- how a drive ends

-- a stop comes before the last call was accepted, and before the numbers run out
abbrev pub LeavesSome : Stop → ℕ → ℕ → Type 0
LeavesSome Full made all = made + 1 < all
LeavesSome _ made all = made < all

-- what is returned for a stop after that many calls
abbrev pub end_of : Stop → ℕ → Result DriveEnd DriveFault
end_of Cancelled made = Ok (GivenUp made)
end_of Full made = Err NoNumber
end_of Memory made = Err NoMemory
end_of (Editor fault) made = Err (Refused fault)

-- A refusal before any call: the fault of the target.
abbrev pub IsEarly : Option DriveFault → Result DriveEnd DriveFault → Type 0
IsEarly fault (Ok x) = ⊥
IsEarly fault (Err e) = fault ≡ Some e

-- No call, for a fault of the target; or all of them; or some but not all up to a stop and then AbortEdit, whatever the editor
-- returns for it.
abbrev pub Drives : {E : Type 0} → (E → Call → Result (Unit {0}) EditFault → E → Type 0) → Option ℕ → Option DriveFault → List Call
    → Result DriveEnd DriveFault → E → E → Type 0
Drives {E} answers limit fault calls result e f =
    ((e ≡ f) × IsEarly fault result)
    ⊎ (((n : ℕ) × (fault ≡ None) × Leads answers calls e f × (n ≡ length calls) × (result ≡ Ok (Closed n)) × IsWithin limit n)
    ⊎ ((s : Stop) × (k : ℕ) × (m : E) × (fault ≡ None) × Halts answers limit k calls e m k s × (result ≡ end_of s k)
    × ((answer : Result (Unit {0}) EditFault) × answers m AbortEdit answer f) × LeavesSome s k (length calls) × IsWithin limit k))
