-- Why a command isn't answered by success, and what is read of one.
--     Reason      the code of the failure that is sent to the client; or fields that aren't those of the command
--     Gives view result read      the result is what reading gives, unless memory ran out
--     Answers old result new said      what is said is written, unless memory ran out
--     Says is_said old result new read      what may be said of what is read is written, unless memory ran out
use Rattle.std.specs.Prelude.{◌≡◌, ℕ, List, ◌++◌, Option, Some, None, Result, Ok, Err}
use Rattle.svn_types.specs.declared.fault.PathFault.{PathFault}
use Rattle.svn_types.specs.declared.fault.PathFault.TheVariants as paths
use Rattle.svn_replies.specs.declared.fault.Refused.{Refused}
use Rattle.svn_replies.specs.declared.fault.Refused.TheVariants as refused
use Rattle.svn_replies.specs.Answers.{failure as failure_bytes}

pub data Reason : Type 0 where
  fails : ℕ → Reason
  malformed : Reason

infixl 10 ◌>>=◌
abbrev pub ◌>>=◌ : {A B : Type 0} → Result A Reason → (A → Result B Reason) → Result B Reason
(Ok x) >>= f = f x
(Err e) >>= f = Err e

-- the same, where another module's `>>=` has the name
abbrev pub reasons : {A B : Type 0} → Result A Reason → (A → Result B Reason) → Result B Reason
reasons read f = read >>= f

-- a field that must be there
abbrev pub needed : {A : Type 0} → Option A → Result A Reason
needed None = Err malformed
needed (Some x) = Ok x

-- the code of a failure
abbrev pub refusal_code : Refused → Option ℕ
refusal_code (refused.Failed failure) = Some failure.code
refusal_code _ = None

-- a path that is none, where a command's fields have it
abbrev pub FromPath : PathFault → Refused → Type 0
FromPath paths.Memory e = e ≡ refused.Memory
FromPath _ e = e ≡ refused.BadFields

abbrev pub Fails : {Y : Type 0} → Refused → Result Y Reason → Type 0
Fails (refused.Failed failure) read = read ≡ Err (fails failure.code)
Fails refused.BadFields read = read ≡ Err malformed
Fails refused.Memory read = Unit {0}

-- the same as a result of reading; where memory ran out nothing is answered
abbrev pub as_read : {X : Type 0} → Result X Refused → Result X Reason
as_read (Ok x) = Ok x
as_read (Err (refused.Failed failure)) = Err (fails failure.code)
as_read (Err refused.BadFields) = Err malformed
as_read (Err refused.Memory) = Err malformed

abbrev pub Gives : {X Y : Type 0} → (X → Y) → Result X Refused → Result Y Reason → Type 0
Gives view (Ok x) read = read ≡ Ok (view x)
Gives view (Err e) read = Fails e read

abbrev pub Answers : List ℕ → Result (Unit {0}) Refused → List ℕ → Result (List ℕ) Reason → Type 0
Answers old (Ok x) new said = (bytes : List ℕ) × (said ≡ Ok bytes) × (new ≡ old ++ bytes)
Answers old (Err e) new said = Fails e said

abbrev pub Says : {X : Type 0} → (X → List ℕ → Type 0) → List ℕ → Result (Unit {0}) Refused → List ℕ → Result X Reason → Type 0
Says {X} IsSaid old (Ok done) new read = (x : X) × (bytes : List ℕ) × (read ≡ Ok x) × IsSaid x bytes × (new ≡ old ++ bytes)
Says IsSaid old (Err e) new read = Fails e read

-- a refusal as it is written; where it isn't, nothing is answered
abbrev pub IsTold : Refused → List ℕ → List ℕ → Type 0
IsTold (refused.Failed failure) old new = new ≡ old ++ failure_bytes failure.code failure.message
IsTold _ old new = ⊥
