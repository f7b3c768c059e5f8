use Rattle.law_update.proofs.Composition.{each_is_accepted}
use Rattle.law_update.proofs.each_call_is_accepted.Goals as goal

pub returns : goal.returns
returns c = each_is_accepted
