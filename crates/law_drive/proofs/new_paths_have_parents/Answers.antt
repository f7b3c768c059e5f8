use Rattle.law_drive.proofs.NewPaths.{new_have_parents}
use Rattle.law_drive.proofs.new_paths_have_parents.Goals as goal

pub returns : goal.returns
returns c = new_have_parents
