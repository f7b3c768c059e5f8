-- What the readers of a line return.
--     Gives view result read      the result is what the definition gives, unless memory ran out
use Rattle.std.specs.Prelude.{◌≡◌, Option, Some, None, Result, Ok, Err}
use Rattle.svn_script.specs.declared.words.LineFault.{LineFault}
use Rattle.svn_script.specs.declared.words.LineFault.TheVariants.{Bad, Memory}

abbrev pub Gives : {X Y : Type 0} → (X → Y) → Result X LineFault → Option Y → Type 0
Gives view (Ok x) read = read ≡ Some (view x)
Gives view (Err Bad) read = read ≡ None
Gives view (Err Memory) read = Unit {0}
