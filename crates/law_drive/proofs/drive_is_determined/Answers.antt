use Rattle.law_drive.proofs.OneDrive.{one_drive}
use Rattle.law_drive.proofs.drive_is_determined.Goals as goal

pub returns : goal.returns
returns c = one_drive
