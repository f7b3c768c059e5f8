use Rattle.svn_repo.proofs.Meanings.{keeps}
use Rattle.svn_repo.proofs.laws.untouched_paths_keep_nodes.Goals as goal

pub returns : goal.returns
returns c = keeps
