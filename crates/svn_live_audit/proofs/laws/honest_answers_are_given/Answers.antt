use Rattle.svn_live_audit.proofs.Honest.{honest_answers_are_given}
use Rattle.svn_live_audit.proofs.laws.honest_answers_are_given.Goals as goal

pub returns : goal.returns
returns c = honest_answers_are_given
