use Rattle.std.proofs.Common.{◌≡◌, ap, sym, ◌∙◌}
use Rattle.std.specs.Prelude.{option_map}
use Rattle.svn_replies.specs.declared.session.Place.{Place}
use Rattle.svn_commands.proofs.Backwards.{all_segments, more_segments}
use Rattle.svn_commands.proofs.history.trace.Goals as goal

pub returns-in-None : goal.returns-in-None
returns-in-None c =
    let same : c.in_ok-clone.field-0 ≡ c.copies.path = c.in_ok-clone.ensures.cases in
    all_segments c.args.served.now c.args.rev c.args.path.now c.copies.segments.items c.copies.last c.first_here-first.result c.copies.path c.in_ok-clone.field-0
    c.copies.invariant c.first_here-first.ensures.first same c.push.new.self.items c.in_ok-push.ensures.items
    (sym c.in_ok-from.ensures.from ∙ ap (option_map (λ (place : Place). (place.rev, place.path))) c.in-None.is)

pub copies-preserved : goal.copies-preserved
copies-preserved c =
    let same : c.in_ok-clone.field-0 ≡ c.copies.path = c.in_ok-clone.ensures.cases in
    more_segments c.args.served.now c.args.rev c.args.path.now c.copies.segments.items c.copies.last c.first_here-first.result c.copies.path c.in_ok-clone.field-0
    c.copies.invariant c.first_here-first.ensures.first same c.push.new.self.items c.push_gap.new.segments.items c.in-Some.from.rev c.in-Some.from.path
    c.in_ok-push.ensures.items c.in_ok-push_gap.ensures
    (sym c.in_ok-from.ensures.from ∙ ap (option_map (λ (place : Place). (place.rev, place.path))) c.in-Some.is)
