use Rattle.svn_folder.proofs.Apart.{meanwhile}
use Rattle.svn_folder.proofs.laws.what_is_synced_stays_meanwhile.Goals as goal

pub returns : goal.returns
returns c = meanwhile
