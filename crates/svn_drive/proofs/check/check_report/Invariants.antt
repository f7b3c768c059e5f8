use Rattle.std.proofs.Common.{◌≡◌, drop}
use Rattle.svn_model.specs.Checks.{first_fault, first_fault_from}
use Rattle.svn_drive.proofs.check.check_report.Given as goal

-- the first fault of the entries that are left is that of the report
abbrev pub invariant-loop-i : goal.invariant-loop-i
invariant-loop-i l = first_fault_from l.repo l.report l.i (drop l.i l.report.entries) ≡ first_fault l.repo l.report
