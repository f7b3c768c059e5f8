use Rattle.svn_serials.proofs.Order.{gap_found}
use Rattle.svn_serials.proofs.slots.search.Goals as goal

pub returns-else-is_at : goal.returns-else-is_at
returns-else-is_at g c =
    let place = c.place_for-place in
    gap_found c.args.slots.now c.args.serial place.result c.requires place.ensures.within place.ensures.below place.ensures.from
    (c.is_at.ensures.miss c.if-is_at.false)
