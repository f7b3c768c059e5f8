-- Faults of the program.
--     is_memory fault      an allocation failed
use Rattle.std.specs.Prelude.{Bool, true, false}
use Rattle.svnaudit.specs.declared.fault.Fault.{Fault}
use Rattle.svnaudit.specs.declared.fault.Fault.TheVariants.{Memory}

abbrev pub is_memory : Fault → Bool
is_memory Memory = true
is_memory _ = false
