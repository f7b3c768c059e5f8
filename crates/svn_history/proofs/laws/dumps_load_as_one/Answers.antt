use Rattle.svn_history.proofs.SameHistories.{dumps_load_as_one}
use Rattle.svn_history.proofs.laws.dumps_load_as_one.Goals as goal

pub returns : goal.returns
returns c = dumps_load_as_one
