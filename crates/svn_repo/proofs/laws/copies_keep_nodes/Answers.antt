use Rattle.svn_repo.proofs.Meanings.{copies}
use Rattle.svn_repo.proofs.laws.copies_keep_nodes.Goals as goal

pub returns : goal.returns
returns c = copies
