use Rattle.svn_folder.proofs.Firm.{replaced}
use Rattle.svn_folder.proofs.laws.a_file_is_replaced_at_once.Goals as goal

pub returns : goal.returns
returns c = replaced
