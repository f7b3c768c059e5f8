use Rattle.law_drive.proofs.Targets.{existing_targets}
use Rattle.law_drive.proofs.existing_targets_have_no_fault.Goals as goal

pub returns : goal.returns
returns c = existing_targets
