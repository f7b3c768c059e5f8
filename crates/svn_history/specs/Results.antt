-- What is made of records, from left to right, with the first fault that is met.
--     Gives view result made      the result is what is made, unless memory ran out
--     of_dump, of_commit      the faults of others among those of loading
use Rattle.std.specs.Prelude.{◌≡◌, Result, Ok, Err}
use Rattle.svn_repo.specs.declared.change.CommitFault.{CommitFault}
use Rattle.svn_repo.specs.declared.change.CommitFault.TheVariants as commit
use Rattle.svn_dump.specs.declared.fault.DumpFault.{DumpFault}
use Rattle.svn_dump.specs.declared.fault.DumpFault.TheVariants as dump
use Rattle.svn_history.specs.declared.fault.LoadFault.{LoadFault}
use Rattle.svn_history.specs.declared.fault.LoadFault.TheVariants as faults

infixl 10 ◌>>=◌
abbrev pub ◌>>=◌ : {A B : Type 0} → Result A LoadFault → (A → Result B LoadFault) → Result B LoadFault
(Ok x) >>= f = f x
(Err e) >>= f = Err e

-- the fault is the one that is met, or memory ran out
abbrev pub Fails : {Y : Type 0} → LoadFault → Result Y LoadFault → Type 0
Fails faults.Memory made = Unit {0}
Fails e made = made ≡ Err e

abbrev pub Gives : {X Y : Type 0} → (X → Y) → Result X LoadFault → Result Y LoadFault → Type 0
Gives view (Ok x) made = made ≡ Ok (view x)
Gives view (Err e) made = Fails e made

-- out of memory is one fault, whoever ran out
abbrev pub of_dump : DumpFault → LoadFault
of_dump dump.Memory = faults.Memory
of_dump fault = faults.Dump fault

abbrev pub of_commit : CommitFault → LoadFault
of_commit commit.Memory = faults.Memory
of_commit fault = faults.Commit fault
