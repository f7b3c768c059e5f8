use Rattle.law_update.proofs.Composition.{composes}
use Rattle.law_update.proofs.drive_composes.Goals as goal

pub returns : goal.returns
returns c = composes
