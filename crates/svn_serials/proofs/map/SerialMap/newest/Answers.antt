use Rattle.std.proofs.Common.{◌≡◌, ℕ, ◌<◌, ◌≤◌, ◌-◌, [], length, get_or, IsSome, MatchOption, subst}
use Rattle.svn_serials.specs.Serials.{get}
use Rattle.svn_serials.specs.Slots.{serials_of}
use Rattle.svn_serials.proofs.Sound.{newest_of}
use Rattle.svn_serials.proofs.map.SerialMap.newest.Goals as goal

pub returns : goal.returns
returns g c =
    let last =
    subst (λ ss. MatchOption c.last_serial.result (ss ≡ []) (λ s. (0 < length ss) × (get_or (serials_of ss) (length ss - 1) 0 ≡ s)))
    c.as_slice.ensures.value c.last_serial.ensures in
    subst (λ es. MatchOption c.last_serial.result (es ≡ []) (λ s. IsSome (get es s) × ((q : ℕ) → IsSome (get es q) → q ≤ s))) c.self.view_is
    (newest_of c.self.inside.slots.items c.self.inside.filled c.self.invariant c.last_serial.result last)
