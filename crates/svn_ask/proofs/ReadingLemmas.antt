-- What is read in several steps.
use Rattle.std.proofs.Common.{◌≡◌, Result, Ok, Err, refl, ap}
use Rattle.svn_ask.specs.declared.fault.AskFault.{AskFault}
use Rattle.svn_ask.specs.declared.fault.AskFault.TheVariants as faults
use Rattle.svn_ask.specs.declared.fault.Reason.{Reason}
use Rattle.svn_ask.specs.Reading.{◌>>=◌, Fails}

-- a fault stays the first, whatever would be read after it
pub fails_first : {Y W : Type 0} (e : AskFault) (read : Result Y Reason) (more : Y → Result W Reason) → Fails e read → Fails e (read >>= more)
fails_first (faults.Refused reason) read more h = ap (λ r. r >>= more) h
fails_first faults.Memory read more h = tt

-- what was read, where more was read after it
pub bind_ok : {A B : Type 0} (read : Result A Reason) (more : A → Result B Reason) (y : B) → (read >>= more) ≡ Ok y
    → (x : A) × (read ≡ Ok x) × (more x ≡ Ok y)
bind_ok (Ok x) more y h = (x, refl, h)
bind_ok (Err e) more y h = cc
