use Rattle.law_drive.proofs.CallDrives.{drive_of_calls}
use Rattle.law_drive.proofs.the_calls_are_a_drive.Goals as goal

pub returns : goal.returns
returns c = λ d late history report checkable target. drive_of_calls d history report checkable target late
