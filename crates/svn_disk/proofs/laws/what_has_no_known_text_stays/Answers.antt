use Rattle.svn_disk.proofs.Sparing.{what_is_not_known_stays}
use Rattle.svn_disk.proofs.laws.what_has_no_known_text_stays.Goals as goal

pub returns : goal.returns
returns c = what_is_not_known_stays
