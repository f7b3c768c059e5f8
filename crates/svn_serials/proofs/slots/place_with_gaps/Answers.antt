use Rattle.svn_serials.proofs.Order.{gap_nowhere}
use Rattle.svn_serials.proofs.slots.place_with_gaps.Goals as goal

pub returns-in-Err : goal.returns-in-Err
returns-in-Err g c = gap_nowhere c.args.slots.now c.args.serial c.in-Err.field-0 c.in-Err.ensures
