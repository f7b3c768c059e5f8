use Rattle.svn_folder.proofs.Settled.{empty_synced}
use Rattle.svn_folder.proofs.laws.an_empty_folder_is_synced.Goals as goal

pub returns : goal.returns
returns c = empty_synced
