-- The number and the name that each fault of a run is known by.
use Rattle.std.specs.Prelude.{ℕ, List, codes}
use Rattle.svn_run.specs.declared.outcome.RunFault.{RunFault}
use Rattle.svn_run.specs.declared.outcome.RunFault.TheVariants.{NoSuchRevision, NoRoot, OtherRoot, Capacity, Memory as NoMemory, NoThread}

abbrev pub run_fault_number : RunFault → ℕ
run_fault_number NoSuchRevision = 31
run_fault_number NoRoot = 35
run_fault_number OtherRoot = 36
run_fault_number Capacity = 32
run_fault_number NoMemory = 33
run_fault_number NoThread = 34

abbrev pub run_fault_name : RunFault → List ℕ
run_fault_name NoSuchRevision = codes "NoSuchRevision"
run_fault_name NoRoot = codes "NoRoot"
run_fault_name OtherRoot = codes "OtherRoot"
run_fault_name Capacity = codes "Capacity"
run_fault_name NoMemory = codes "Memory"
run_fault_name NoThread = codes "NoThread"
