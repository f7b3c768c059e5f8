-- The number and the name that each fault of a reporter is known by.
use Rattle.std.specs.Prelude.{ℕ, List, codes}
use Rattle.svn_report.specs.declared.reporter_fault.ReporterFault.{ReporterFault}
use Rattle.svn_report.specs.declared.reporter_fault.ReporterFault.TheVariants.{NotRootFirst, Repeated, UnderDeleted, ParentLater}
use Rattle.svn_report.specs.declared.reporter_fault.ReporterFault.TheVariants as reporter

abbrev pub reporter_fault_number : ReporterFault → ℕ
reporter_fault_number NotRootFirst = 1
reporter_fault_number Repeated = 2
reporter_fault_number UnderDeleted = 3
reporter_fault_number ParentLater = 4
reporter_fault_number reporter.TooDeep = 5
reporter_fault_number reporter.Memory = 6

abbrev pub reporter_fault_name : ReporterFault → List ℕ
reporter_fault_name NotRootFirst = codes "NotRootFirst"
reporter_fault_name Repeated = codes "Repeated"
reporter_fault_name UnderDeleted = codes "UnderDeleted"
reporter_fault_name ParentLater = codes "ParentLater"
reporter_fault_name reporter.TooDeep = codes "TooDeep"
reporter_fault_name reporter.Memory = codes "Memory"
