use Rattle.svn_repo.proofs.Meanings.{stays}
use Rattle.svn_repo.proofs.laws.revisions_stay.Goals as goal

pub returns : goal.returns
returns c = stays
