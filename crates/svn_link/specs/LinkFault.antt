-- The numbers and names of the faults.
use Rattle.std.specs.Prelude.{ℕ, List, codes}
use Rattle.svn_link.specs.declared.fault.LinkFault.{LinkFault}
use Rattle.svn_link.specs.declared.fault.LinkFault.TheVariants.{Capacity, Memory}

abbrev pub link_fault_number : LinkFault → ℕ
link_fault_number Capacity = 1
link_fault_number Memory = 2

abbrev pub link_fault_name : LinkFault → List ℕ
link_fault_name Capacity = codes "Capacity"
link_fault_name Memory = codes "Memory"
