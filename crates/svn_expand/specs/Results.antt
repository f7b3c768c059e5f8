-- What is made of a dump, from left to right, with the first fault that is met.
--     Gives view result made      the result is what is made, unless memory ran out
--     of_dump      the faults of a reader among those of an expansion
use Rattle.std.specs.Prelude.{◌≡◌, Result, Ok, Err}
use Rattle.svn_dump.specs.declared.fault.DumpFault.{DumpFault}
use Rattle.svn_dump.specs.declared.fault.DumpFault.TheVariants as dump
use Rattle.svn_expand.specs.declared.fault.ExpandFault.{ExpandFault}
use Rattle.svn_expand.specs.declared.fault.ExpandFault.TheVariants as faults

infixl 10 ◌>>=◌
abbrev pub ◌>>=◌ : {A B : Type 0} → Result A ExpandFault → (A → Result B ExpandFault) → Result B ExpandFault
(Ok x) >>= f = f x
(Err e) >>= f = Err e

-- the fault is the one that is met, or memory ran out
abbrev pub Fails : {Y : Type 0} → ExpandFault → Result Y ExpandFault → Type 0
Fails faults.Memory made = Unit {0}
Fails e made = made ≡ Err e

abbrev pub Gives : {X Y : Type 0} → (X → Y) → Result X ExpandFault → Result Y ExpandFault → Type 0
Gives view (Ok x) made = made ≡ Ok (view x)
Gives view (Err e) made = Fails e made

-- out of memory is one fault, whoever ran out
abbrev pub of_dump : DumpFault → ExpandFault
of_dump dump.Memory = faults.Memory
of_dump fault = faults.Dump fault
