-- How the results of a check and of an editor go together.
--     as_edit_fault fault      what an editor returns where the check of the order returns that fault
use Rattle.svn_editor.specs.declared.fault.OrderFault.{OrderFault}
use Rattle.svn_editor.specs.declared.fault.OrderFault.TheVariants.{Memory}
use Rattle.svn_editor.specs.declared.fault.EditFault.{EditFault}
use Rattle.svn_editor.specs.declared.fault.EditFault.TheVariants.{Order, Memory as NoMemory}

abbrev pub as_edit_fault : OrderFault → EditFault
as_edit_fault Memory = NoMemory
as_edit_fault fault = Order fault
