-- Reading from left to right, with the first fault that is met.
--     r >>= f      f of what was read, or the fault
--     given fault o      what is there, or the fault where nothing is
--     Gives view result read      the result is what reading gives, unless an allocation failed
use Rattle.std.specs.Prelude.{◌≡◌, Option, Some, None, Result, Ok, Err}
use Rattle.svn_ask.specs.declared.fault.AskFault.{AskFault}
use Rattle.svn_ask.specs.declared.fault.AskFault.TheVariants as faults
use Rattle.svn_ask.specs.declared.fault.Reason.{Reason}

infixl 10 ◌>>=◌
abbrev pub ◌>>=◌ : {A B : Type 0} → Result A Reason → (A → Result B Reason) → Result B Reason
(Ok x) >>= f = f x
(Err e) >>= f = Err e

abbrev pub given : {A : Type 0} → Reason → Option A → Result A Reason
given fault None = Err fault
given fault (Some x) = Ok x

-- the fault is the one that reading meets, or none of the bytes'
abbrev pub Fails : {Y : Type 0} → AskFault → Result Y Reason → Type 0
Fails (faults.Refused reason) read = read ≡ Err reason
Fails faults.Memory read = Unit {0}

abbrev pub Gives : {X Y : Type 0} → (X → Y) → Result X AskFault → Result Y Reason → Type 0
Gives view (Ok x) read = read ≡ Ok (view x)
Gives view (Err e) read = Fails e read
