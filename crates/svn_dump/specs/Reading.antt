-- Reading from left to right, with the first fault that is met.
--     Gives view result read      the result is what reading gives, unless memory ran out
--     Reads view old new result at      the same of the bytes that a reader has left, unless it failed; it took what was read
--     FailsWith failed then_failed result      a read fault comes only of a reader that failed then, and then nothing else does
use Rattle.std.specs.Prelude.{◌≡◌, ℕ, Bool, true, List, Option, Some, None, Result, Ok, Err}
use Rattle.svn_dump.specs.declared.fault.Reason.{Reason}
use Rattle.svn_dump.specs.declared.fault.DumpFault.{DumpFault}
use Rattle.svn_dump.specs.declared.fault.DumpFault.TheVariants as faults

infixl 10 ◌>>=◌
abbrev pub ◌>>=◌ : {A B : Type 0} → Result A Reason → (A → Result B Reason) → Result B Reason
(Ok x) >>= f = f x
(Err e) >>= f = Err e

-- the fault is the one that reading bytes meets, or memory ran out: no reader is there that could fail
abbrev pub Meets : {Y : Type 0} → DumpFault → Result Y Reason → Type 0
Meets (faults.Refused reason) read = read ≡ Err reason
Meets faults.Read read = ⊥
Meets faults.Memory read = Unit {0}

-- the fault is the one that reading meets, or none of the bytes'
abbrev pub Fails : {Y : Type 0} → DumpFault → Result Y Reason → Type 0
Fails (faults.Refused reason) read = read ≡ Err reason
Fails faults.Read read = Unit {0}
Fails faults.Memory read = Unit {0}

abbrev pub Gives : {X Y : Type 0} → (X → Y) → Result X DumpFault → Result Y Reason → Type 0
Gives view (Ok x) read = read ≡ Ok (view x)
Gives view (Err e) read = Meets e read

-- the same of bytes that are followed by others
abbrev pub GivesFront : {X Y : Type 0} → (X → Y) → Result X DumpFault → List ℕ → Result (Y × List ℕ) Reason → Type 0
GivesFront view (Ok x) rest read = read ≡ Ok (view x, rest)
GivesFront view (Err e) rest read = Fails e read

-- what a reader has left is known before only if it is after, too
abbrev pub Reads : {X Y : Type 0} → (X → Y) → Option (List ℕ) → Option (List ℕ) → Result X DumpFault → (List ℕ → Result (Y × List ℕ) Reason)
    → Type 0
Reads view None new result at = Unit {0}
Reads view (Some bytes) (Some rest) result at = GivesFront view result rest (at bytes)
Reads view (Some bytes) None (Ok x) at = ⊥
Reads view (Some bytes) None (Err e) at = Fails e (at bytes)

-- of whether a read failed before, and whether one has after
abbrev pub FailsWith : {X : Type 0} → Bool → Bool → Result X DumpFault → Type 0
FailsWith failed then_failed (Ok x) = then_failed ≡ failed
FailsWith failed then_failed (Err (faults.Refused reason)) = then_failed ≡ failed
FailsWith failed then_failed (Err faults.Memory) = then_failed ≡ failed
FailsWith failed then_failed (Err faults.Read) = then_failed ≡ true
