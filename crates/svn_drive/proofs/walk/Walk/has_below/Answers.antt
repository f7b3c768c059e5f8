use Rattle.svn_drive.proofs.Parts.{something_told}
use Rattle.svn_drive.proofs.walk.Walk.has_below.Goals as goal

pub returns : goal.returns
returns c = something_told _ _ _ c.requires.below c.is_empty.result c.is_empty.ensures.0 c.is_empty.ensures.1
