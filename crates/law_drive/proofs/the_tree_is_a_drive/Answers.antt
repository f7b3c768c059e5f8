use Rattle.law_drive.proofs.ReportDrives.{drive_of_report}
use Rattle.law_drive.proofs.the_tree_is_a_drive.Goals as goal

pub returns : goal.returns
returns c = λ d late height history report checkable target enough. drive_of_report d history report checkable target late height enough
