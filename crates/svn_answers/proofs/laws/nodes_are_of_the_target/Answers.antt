use Rattle.svn_answers.proofs.Targets.{nodes_are_of_the_target}
use Rattle.svn_answers.proofs.laws.nodes_are_of_the_target.Goals as goal

pub returns : goal.returns
returns c = nodes_are_of_the_target c.whole_copies_lack_nothing.ensures
