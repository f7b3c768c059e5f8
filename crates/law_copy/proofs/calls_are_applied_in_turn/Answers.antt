use Rattle.law_copy.proofs.Appending.{after-more}
use Rattle.law_copy.proofs.calls_are_applied_in_turn.Goals as goal

pub returns : goal.returns
returns c = after-more
