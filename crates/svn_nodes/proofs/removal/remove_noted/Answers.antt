use Rattle.std.proofs.Common.{◌<◌, ◌∷◌, ◌++◌, [], length, Option, sym, ap, ◌∙◌, take, arith}
use Rattle.std.proofs.lemmas.List.{take_more}
use Rattle.svn_types.specs.Names.{Path}
use Rattle.svn_model.specs.Nodes.{get_in}
use Rattle.svn_nodes.proofs.Removals.{noted_next}
use Rattle.svn_nodes.proofs.removal.remove_noted.Goals as goal

pub loop-place-preserved : goal.loop-place-preserved
loop-place-preserved c = λ p.
    let within : c.loop-place.place-index < length c.args.places.now = omega arith in
    let more = take_more c.args.places.now c.loop-place.place-index c.place-item.result within in
    noted_next c.args.places.now c.loop-place.place-index c.place-item.result p (get_in c.args.nodes.now.entries p)
    (get_in c.loop-place.nodes.entries p) (get_in c.remove_at.new.nodes.entries p)
    (more ∙ ap (λ (o : Option Path). take c.loop-place.place-index c.args.places.now ++ o ∷ []) (sym c.place-item.is))
    (c.loop-place.invariant p) (c.remove_at.ensures p)
