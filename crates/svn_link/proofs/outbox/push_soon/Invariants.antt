use Rattle.std.proofs.Common.{◌≡◌}
use Rattle.crossbeam_channel.specs.Claims.{view as hand_of, IsSeatAt}
use Rattle.crossbeam_channel.specs.Ends.{sends_on}
use Rattle.svn_link.proofs.outbox.push_soon.Given as goal

abbrev pub invariant-look : goal.invariant-look
invariant-look g l = IsSeatAt (sends_on l.sender) l.pass × (hand_of l.pass ≡ hand_of l.initial.pass) × (l.call ≡ l.initial.call)
