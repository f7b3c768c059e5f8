use Rattle.svn_disk_audit.proofs.KeptTexts.{stand_ins_stay}
use Rattle.svn_disk_audit.proofs.laws.stand_ins_stay.Goals as goal

pub returns : goal.returns
returns c = stand_ins_stay
