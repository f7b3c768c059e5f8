use Rattle.std.proofs.Common.{sym, subst}
use Rattle.svn_serials.specs.Slots.{IsSound}
use Rattle.svn_serials.proofs.Sound.{sound_nil}
use Rattle.svn_serials.proofs.map.SerialMap.new.Goals as goal

pub invariant_of-result : goal.invariant_of-result
invariant_of-result g c = subst (λ ss. IsSound ss 0) (sym c.new.ensures.items) sound_nil
