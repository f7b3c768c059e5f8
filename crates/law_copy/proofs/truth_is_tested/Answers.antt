use Rattle.law_copy.proofs.TruthTests.{tests_truth}
use Rattle.law_copy.proofs.truth_is_tested.Goals as goal

pub returns : goal.returns
returns c = tests_truth
