use Rattle.std.proofs.Common.{◌≡◌, ◌++◌, ◌∷◌, List, ℕ, append_assoc, ap, ◌∙◌, subst}
use Rattle.svn_wire.specs.declared.token.Token.{Token}
use Rattle.svn_wire.specs.declared.token.Token.TheVariants.{Number}
use Rattle.svn_commands.specs.Asking.{asked_as}
use Rattle.svn_commands.specs.Locations.{revs_of}
use Rattle.svn_commands.proofs.Located.{AreBegun, begun_more, all_written, next_rev, no_rev}
use Rattle.svn_commands.proofs.locations.push_locations_in.Goals as goal

pub revs-preserved : goal.revs-preserved
revs-preserved c =
    let s = c.args.view.served.now in
    let asked = asked_as c.args.asked.now in
    let segments = c.args.segments.now in
    let all = revs_of c.args.asked.now.revs.now in
    let inv = c.revs.invariant in
    let one = c.in_ok-push_location-in-Some.ensures in
    let rev = c.in-Some.rev in
    let after : List Token = c.in-Some.after.now in
    let step : c.revs.left.now ≡ Number rev ∷ after = next_rev c.revs.left.now rev after c.in-Some.ensures in (
      inv.0 ++ one.0,
      begun_more s asked segments rev (revs_of after) all inv.0 one.0
          (subst (λ (l : List ℕ). AreBegun s asked segments l all inv.0) (ap revs_of step) inv.1) one.1,
      one.2 ∙ ap (λ (l : List ℕ). l ++ one.0) inv.2 ∙ append_assoc c.args.out.now.items inv.0 one.0,
    )

pub returns-in-None : goal.returns-in-None
returns-in-None c =
    let s = c.args.view.served.now in
    let asked = asked_as c.args.asked.now in
    let segments = c.args.segments.now in
    let all = revs_of c.args.asked.now.revs.now in
    let inv = c.revs.invariant in (
      inv.0,
      all_written s asked segments all inv.0
          (subst (λ (l : List ℕ). AreBegun s asked segments l all inv.0) (no_rev c.revs.left.now c.in-None.ensures) inv.1),
      inv.2,
    )
