-- What is read step by step, and what a step that fails makes of it.
use Rattle.std.proofs.Common.{◌≡◌, ℕ, Some, Result, Err, refl}
use Rattle.std.specs.Prelude.{IsErr, IsErrAnd}
use Rattle.std.proofs.lemmas.Result.{err_from_is_err_and}
use Rattle.svn_replies.specs.declared.fault.Refused.{Refused}
use Rattle.svn_replies.specs.declared.fault.Refused.TheVariants as refused
use Rattle.svn_replies.specs.Refusals.{Reason, fails, refusal_code, Fails, Gives, ◌>>=◌}

-- a step that fails
pub fails_first : {A B : Type 0} (e : Refused) (read : Result A Reason) (more : A → Result B Reason) → Fails e read → Fails e (read >>= more)
fails_first (refused.Failed failure) read more h = rw h refl
fails_first refused.BadFields read more h = rw h refl
fails_first refused.Memory read more h = tt

-- what `?` returns of it
pub exits : {X Y : Type 0} (view : X → Y) (r : Result X Refused) (e : Refused) (read : Result Y Reason) → IsErr r × IsErrAnd r (λ x. x ≡ e) → Fails e read
    → Gives view r read
exits view r e read h first = let p = err_from_is_err_and r h.1 in rw (p.1, p.2) first

-- a failure of a code
pub fails_by : {A : Type 0} (e : Refused) (code : ℕ) (read : Result A Reason) → refusal_code e ≡ Some code → read ≡ Err (fails code) → Fails e read
fails_by (refused.Failed failure) code read is h = let same : failure.code ≡ code = cc in rw same h
fails_by refused.BadFields code read is h = absurd cc
fails_by refused.Memory code read is h = tt
