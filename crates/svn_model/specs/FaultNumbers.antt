-- The number and the name that each fault is known by.
use Rattle.std.specs.Prelude.{ℕ, List, codes}
use Rattle.svn_editor.specs.FaultNumbers.{edit_fault_name}
use Rattle.svn_model.specs.declared.report_fault.ReportFault.{ReportFault}
use Rattle.svn_model.specs.declared.report_fault.ReportFault.TheVariants.{NoEntries, NoNode, ParentNotDir, RootNotDir}
use Rattle.svn_model.specs.declared.report_fault.ReportFault.TheVariants as report
use Rattle.svn_model.specs.declared.drive_fault.DriveFault.{DriveFault}
use Rattle.svn_model.specs.declared.drive_fault.DriveFault.TheVariants.{NoSuchTarget, Editor, Full, NoRoot, OtherRoot}
use Rattle.svn_model.specs.declared.drive_fault.DriveFault.TheVariants as drive
use Rattle.svn_model.specs.declared.wc_fault.WcFault.{WcFault}
use Rattle.svn_model.specs.declared.wc_fault.WcFault.TheVariants.{Missing, NoParent, IsRoot, TooDeep, Twice, BadRoot}
use Rattle.svn_model.specs.declared.wc_fault.WcFault.TheVariants as copy

abbrev pub report_fault_number : ReportFault → ℕ
report_fault_number NoEntries = 10
report_fault_number (report.NoSuchRevision i) = 11
report_fault_number (NoNode i) = 12
report_fault_number (ParentNotDir i) = 13
report_fault_number report.Memory = 14
report_fault_number RootNotDir = 15

abbrev pub report_fault_name : ReportFault → List ℕ
report_fault_name NoEntries = codes "NoEntries"
report_fault_name (report.NoSuchRevision i) = codes "NoSuchRevision"
report_fault_name (NoNode i) = codes "NoNode"
report_fault_name (ParentNotDir i) = codes "ParentNotDir"
report_fault_name report.Memory = codes "Memory"
report_fault_name RootNotDir = codes "RootNotDir"

abbrev pub drive_fault_number : DriveFault → ℕ
drive_fault_number NoSuchTarget = 21
drive_fault_number drive.Memory = 22
drive_fault_number (Editor fault) = 23
drive_fault_number Full = 24
drive_fault_number NoRoot = 25
drive_fault_number OtherRoot = 26

-- an editor's fault has its own name
abbrev pub drive_fault_name : DriveFault → List ℕ
drive_fault_name NoSuchTarget = codes "NoSuchTarget"
drive_fault_name drive.Memory = codes "Memory"
drive_fault_name (Editor fault) = edit_fault_name fault
drive_fault_name Full = codes "Full"
drive_fault_name NoRoot = codes "NoRoot"
drive_fault_name OtherRoot = codes "OtherRoot"

abbrev pub wc_fault_number : WcFault → ℕ
wc_fault_number copy.NoSuchRevision = 1
wc_fault_number Missing = 2
wc_fault_number NoParent = 3
wc_fault_number IsRoot = 4
wc_fault_number TooDeep = 5
wc_fault_number copy.Memory = 6
wc_fault_number Twice = 7
wc_fault_number BadRoot = 8

abbrev pub wc_fault_name : WcFault → List ℕ
wc_fault_name copy.NoSuchRevision = codes "NoSuchRevision"
wc_fault_name Missing = codes "Missing"
wc_fault_name NoParent = codes "NoParent"
wc_fault_name IsRoot = codes "IsRoot"
wc_fault_name TooDeep = codes "TooDeep"
wc_fault_name copy.Memory = codes "Memory"
wc_fault_name Twice = codes "Twice"
wc_fault_name BadRoot = codes "BadRoot"
