use Rattle.std.proofs.Common.{sym, subst}
use Rattle.svn_serials.specs.Slots.{IsSound}
use Rattle.svn_serials.proofs.Sound.{sound_nil}
use Rattle.svn_serials.proofs.map.SerialMap.clear.Goals as goal

pub invariant_of-self : goal.invariant_of-self
invariant_of-self g c = subst (λ ss. IsSound ss 0) (sym c.clear.ensures.items) sound_nil
