use Rattle.svn_folder.proofs.Firm.{stays}
use Rattle.svn_folder.proofs.laws.what_is_synced_stays.Goals as goal

pub returns : goal.returns
returns c = stays
