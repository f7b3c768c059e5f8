-- Lists of calls that an editor takes one by one.
--     Leads calls e f      the calls lead from one editor to another, each of them accepted
use Rattle.std.specs.Prelude.{◌≡◌, List, [], ◌∷◌, Result, Ok}
use Rattle.svn_editor.specs.declared.call.Call.{Call}
use Rattle.svn_editor.specs.declared.fault.EditFault.{EditFault}

module _ {E : Type 0} (answers : E → Call → Result (Unit {0}) EditFault → E → Type 0) where
  abbrev pub Leads : List Call → E → E → Type 0
  Leads [] e f = e ≡ f
  Leads (c ∷ calls) e f = (m : E) × answers e c (Ok tt) m × Leads calls m f
