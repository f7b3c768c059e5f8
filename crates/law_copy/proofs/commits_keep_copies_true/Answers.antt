use Rattle.law_copy.proofs.Builds.{commits_keep}
use Rattle.law_copy.proofs.commits_keep_copies_true.Goals as goal

pub returns : goal.returns
returns c = commits_keep
