use Rattle.std.proofs.Common.{◌≡◌}
use Rattle.crossbeam_channel.specs.Claims.{view as hand_of, IsSeatAt}
use Rattle.crossbeam_channel.specs.Ends.{receives_on}
use Rattle.svn_link.proofs.inbox.pop_soon.Given as goal

abbrev pub invariant-look : goal.invariant-look
invariant-look g l = IsSeatAt (receives_on l.receiver) l.pass × (hand_of l.pass ≡ hand_of l.initial.pass)
