use Rattle.std.proofs.Common.{◌≡◌, ◌+◌, ◌<◌, ◌^◌, ◌∙◌, length, ap, arith, subst}
use Rattle.std.specs.Prelude.{Result, MatchResult}
use Rattle.crossbeam_channel.specs.Claims.{view as hand_of}
use Rattle.svn_editor.specs.declared.call.Call.{Call}
use Rattle.svn_link.specs.Queue.{sent_more}
use Rattle.svn_link.proofs.Moves.{sends}
use Rattle.svn_link.proofs.outbox.push.Goals as goal

pub send_as-requires-clause-rule : goal.send_as-requires-clause-rule
send_as-requires-clause-rule g c =
    let before = hand_of c.args.pass.now in
    let after = hand_of c.push_soon.new.pass in
    let full =
    subst
    (λ (r : Result Unit Call). MatchResult r (λ _. after ≡ sent_more before c.args.call) (λ back. (back ≡ c.args.call) × (after ≡ before)))
    c.in-Err.is c.push_soon.ensures.sent in
    let same = c.loop.invariant.1 ∙ full.1 in
    let room : length (hand_of c.loop.pass).sent + 1 < 2 ^ 64 = let long = ap (λ h. length h.sent) same in omega (arith, c.requires.room) in
    (sends _ _ _ _ (ap (λ h. h.sends) (same ∙ c.requires.sends)) room, (λ _ _ _ _. tt))
