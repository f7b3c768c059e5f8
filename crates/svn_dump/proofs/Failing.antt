-- Whose fault a read fault is.
use Rattle.std.proofs.Common.{◌≡◌, Bool, Result, Err, sym, subst, ⊎_elim}
use Rattle.std.specs.Prelude.{◌⊎◌, IsErr, IsErrAnd}
use Rattle.std.proofs.lemmas.Result.{err_from_is_err_and}
use Rattle.svn_dump.specs.declared.fault.Reason.{Reason}
use Rattle.svn_dump.specs.declared.fault.Reason.TheVariants.{WrongMd5, WrongSha1}
use Rattle.svn_dump.specs.declared.fault.DumpFault.{DumpFault}
use Rattle.svn_dump.specs.declared.fault.DumpFault.TheVariants as faults
use Rattle.svn_dump.specs.Reading.{FailsWith}

no_read : (reason : Reason) → faults.Read ≡ faults.Refused reason → ⊥
no_read reason e = cc

abbrev HasOtherSum : DumpFault → Type 0
HasOtherSum e = (e ≡ faults.Refused WrongMd5) ⊎ (e ≡ faults.Refused WrongSha1)

-- a text that was read has another checksum
pub fails_at_sums : {X : Type 0} (old new : Bool) (e : DumpFault) (r : Result X DumpFault) → IsErr r × IsErrAnd r (λ x. x ≡ e) → new ≡ old
    → (e ≡ faults.Refused WrongMd5) ⊎ (e ≡ faults.Refused WrongSha1) → FailsWith old new r
fails_at_sums {X} old new e r returned same h =
    let p = err_from_is_err_and r returned.1 in
    subst (λ (o : Result X DumpFault). FailsWith old new o) (sym p.1) (by p.0 (subst HasOtherSum (sym p.2) h))
  where
    by : (f : DumpFault) → HasOtherSum f → FailsWith {X = X} old new (Err f)
    by (faults.Refused reason) h = same
    by faults.Memory h = same
    by faults.Read h = absurd (⊎_elim (no_read WrongMd5) (no_read WrongSha1) h)
