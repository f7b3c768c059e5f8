-- Reading from left to right, with the first fault that is met.
--     each step list state      the state after a step for each of a list
--     at path read      the same reading, where its fault is that of the node at a path
--     Gives view result read      the result is what reading gives, unless an allocation failed
--     Finds view result read      the same of a reading whose fault has a place
use Rattle.std.specs.Prelude.{◌≡◌, ℕ, List, [], ◌∷◌, Option, Some, None, Result, Ok, Err}
use Rattle.svn_wcdb.specs.declared.fault.Reason.{Reason}
use Rattle.svn_wcdb.specs.declared.fault.WcdbFault.{WcdbFault}
use Rattle.svn_wcdb.specs.declared.fault.WcdbFault.TheVariants as faults
use Rattle.svn_wcdb.specs.declared.refusal.Refusal.{Refusal}

-- why a database is refused, and the path of the node that is at fault, if one is
pub record Place : Type 0 where
  pub reason : Reason
  pub path : Option (List ℕ)

abbrev pub at : {A : Type 0} → Option (List ℕ) → Result A Reason → Result A Place
at path (Ok x) = Ok x
at path (Err reason) = Err (record { reason = reason; path = path })

infixl 10 ◌>>=◌
abbrev pub ◌>>=◌ : {A B E : Type 0} → Result A E → (A → Result B E) → Result B E
(Ok x) >>= f = f x
(Err e) >>= f = Err e

-- what is there, or a fault where nothing is
abbrev pub given : {A E : Type 0} → E → Option A → Result A E
given fault None = Err fault
given fault (Some x) = Ok x

abbrev pub each : {A S E : Type 0} → (A → S → Result S E) → List A → S → Result S E
each step [] state = Ok state
each step (x ∷ xs) state = step x state >>= each step xs

-- the fault is the one that reading meets, or none of the bytes'
abbrev pub Fails : {Y : Type 0} → WcdbFault → Result Y Reason → Type 0
Fails (faults.Refused reason) read = read ≡ Err reason
Fails faults.Memory read = Unit {0}

abbrev pub Gives : {X Y : Type 0} → (X → Y) → Result X WcdbFault → Result Y Reason → Type 0
Gives view (Ok x) read = read ≡ Ok (view x)
Gives view (Err e) read = Fails e read

-- the same of a refusal, which says where the fault is too
abbrev pub FailsAt : {Y : Type 0} → WcdbFault → Option (List ℕ) → Result Y Place → Type 0
FailsAt (faults.Refused reason) path read = read ≡ Err (record { reason = reason; path = path })
FailsAt faults.Memory path read = Unit {0}

-- a refusal is at that place, unless an allocation failed
abbrev pub IsAt : Refusal → Place → Type 0
IsAt refusal place = FailsAt {Y = ℕ} refusal.fault refusal.path (Err place)

abbrev pub Finds : {X Y : Type 0} → (X → Y) → Result X Refusal → Result Y Place → Type 0
Finds view (Ok x) read = read ≡ Ok (view x)
Finds view (Err refusal) read = FailsAt refusal.fault refusal.path read

-- the same where nothing is allocated
abbrev pub Answers : {X Y : Type 0} → (X → Y) → Result X Reason → Result Y Reason → Type 0
Answers view (Ok x) read = read ≡ Ok (view x)
Answers view (Err e) read = read ≡ Err e
