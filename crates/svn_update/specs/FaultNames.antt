-- The names that refused commands print.
use Rattle.std.specs.Prelude.{ℕ, List, codes}
use Rattle.svn_repo.specs.Changes.{commit_fault_name}
use Rattle.svn_model.specs.FaultNumbers.{wc_fault_name, drive_fault_name}
use Rattle.svn_run.specs.FaultNumbers.{run_fault_name}
use Rattle.svn_update.specs.declared.answer.Refusal.{Refusal}
use Rattle.svn_update.specs.declared.answer.Refusal.TheVariants.{NoCopy, Memory, Commit, Copy, Drive, Run}

abbrev pub refusal_name : Refusal → List ℕ
refusal_name NoCopy = codes "NoCopy"
refusal_name Memory = codes "Memory"
refusal_name (Commit fault) = commit_fault_name fault
refusal_name (Copy fault) = wc_fault_name fault
refusal_name (Drive fault) = drive_fault_name fault
refusal_name (Run fault) = run_fault_name fault
