use Rattle.std.proofs.Common.{◌∙◌, ap}
use Rattle.svn_link.proofs.Moves.{takes}
use Rattle.svn_link.proofs.inbox.pop_soon.Goals as goal

pub try_recv_as-requires-clause-rule : goal.try_recv_as-requires-clause-rule
try_recv_as-requires-clause-rule g c = (takes _ _ (ap (λ h. h.takes) (c.look.invariant.1 ∙ c.requires.takes)), (λ _ _ _ _. tt))
