use Rattle.std.proofs.Common.{◌≡◌, vec_len}
use Rattle.svn_serials.specs.Slots.{IsInOrder, held}
use Rattle.svn_serials.proofs.slots.trim.Given as goal

abbrev pub invariant-end : goal.invariant-end
invariant-end g l = record { held : held l.slots.items ≡ held l.initial.slots.items; order : IsInOrder l.slots.items }

abbrev pub decreases-end : goal.decreases-end
decreases-end g l = vec_len l.slots
