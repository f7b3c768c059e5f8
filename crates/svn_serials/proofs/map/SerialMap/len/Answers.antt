use Rattle.std.proofs.Common.{subst}
use Rattle.svn_serials.specs.Serials.{IsRising}
use Rattle.svn_serials.proofs.Order.{rising_held}
use Rattle.svn_serials.proofs.map.SerialMap.len.Goals as goal

pub returns-clause-rising : goal.returns-clause-rising
returns-clause-rising g c = subst IsRising c.self.view_is (rising_held c.self.inside.slots.items c.self.invariant.order)
