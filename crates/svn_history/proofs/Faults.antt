-- Faults that are passed on.
use Rattle.std.proofs.Common.{◌≡◌, Result, Ok, Err, subst, sym}
use Rattle.svn_history.specs.declared.fault.LoadFault.{LoadFault}
use Rattle.svn_history.specs.declared.fault.LoadFault.TheVariants as faults
use Rattle.std.specs.Prelude.{IfErr}
use Rattle.svn_history.specs.Results.{Fails}

pub fails_by : {A : Type 0} (e : LoadFault) (made : Result A LoadFault) → made ≡ Err e → Fails e made
fails_by faults.Memory made is = tt
fails_by (faults.Dump fault) made is = is
fails_by (faults.Commit fault) made is = is
fails_by faults.NotRising made is = is
fails_by faults.TooManyRevisions made is = is
fails_by faults.NoRevision made is = is
fails_by faults.NoKind made is = is
fails_by (faults.Delta fault) made is = is

-- what fails so makes another fail so
pub fails_through : {A B : Type 0} (e : LoadFault) (made : Result A LoadFault) (other : Result B LoadFault)
    → (made ≡ Err e → other ≡ Err e) → Fails e made → Fails e other
fails_through faults.Memory made other f h = tt
fails_through (faults.Dump fault) made other f h = f h
fails_through (faults.Commit fault) made other f h = f h
fails_through faults.NotRising made other f h = f h
fails_through faults.TooManyRevisions made other f h = f h
fails_through faults.NoRevision made other f h = f h
fails_through faults.NoKind made other f h = f h
fails_through (faults.Delta fault) made other f h = f h

-- out of memory whatever is made
pub fails_memory : {A : Type 0} (e : LoadFault) (made : Result A LoadFault) → e ≡ faults.Memory → Fails e made
fails_memory {A} e made is = subst (λ (x : LoadFault). Fails {Y = A} x made) (sym is) tt

pub IfErr_both : {T E : Type 0} {P R : E → Type 0} (Q : E → Type 0) (r : Result T E) → IfErr r P → IfErr r R
    → ((e : E) → P e → R e → Q e) → IfErr r Q
IfErr_both Q (Ok v) h k f = tt
IfErr_both Q (Err e) h k f = f e h k

pub IfErr_then : {T E : Type 0} {P : E → Type 0} (Q : E → Type 0) (r : Result T E) → IfErr r P → ((e : E) → P e → Q e) → IfErr r Q
IfErr_then Q (Ok v) h f = tt
IfErr_then Q (Err e) h f = f e h
