use Rattle.std.proofs.Common.{◌+◌, ◌<◌, ◌^◌, ◌∙◌, length, ap, arith}
use Rattle.crossbeam_channel.specs.Claims.{view as hand_of}
use Rattle.svn_link.proofs.Moves.{sends}
use Rattle.svn_link.proofs.outbox.push_soon.Goals as goal

pub try_send_as-requires-clause-rule : goal.try_send_as-requires-clause-rule
try_send_as-requires-clause-rule g c =
    let same = c.look.invariant.1 in
    let room : length (hand_of c.look.pass).sent + 1 < 2 ^ 64 = let long = ap (λ h. length h.sent) same in omega (arith, c.requires.room) in
    (sends _ _ _ _ (ap (λ h. h.sends) (same ∙ c.requires.sends)) room, (λ _ _ _ _. tt))
