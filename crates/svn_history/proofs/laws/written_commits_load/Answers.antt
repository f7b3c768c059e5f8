use Rattle.svn_history.proofs.Reloading.{written_commits_load}
use Rattle.svn_history.proofs.laws.written_commits_load.Goals as goal

pub returns : goal.returns
returns c = written_commits_load
