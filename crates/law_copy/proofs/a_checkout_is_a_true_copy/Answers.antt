use Rattle.law_copy.proofs.Builds.{checks_out}
use Rattle.law_copy.proofs.a_checkout_is_a_true_copy.Goals as goal

pub returns : goal.returns
returns c = checks_out
