use Rattle.svn_folder.proofs.Runs.{joined}
use Rattle.svn_folder.proofs.laws.steps_are_joined.Goals as goal

pub returns : goal.returns
returns c = joined
