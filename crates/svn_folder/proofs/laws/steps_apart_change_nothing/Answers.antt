use Rattle.svn_folder.proofs.Apart.{run_apart}
use Rattle.svn_folder.proofs.laws.steps_apart_change_nothing.Goals as goal

pub returns : goal.returns
returns c = run_apart
