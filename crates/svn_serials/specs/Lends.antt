-- What a map ends as, where a `&mut` to one of its values was given.
use Rattle.std.specs.Prelude.{nat_eq, ℕ, List, Option}
use Rattle.std.specs.Borrow.{LendsIf, Fml, RattleType, MutBor}
use Rattle.std.specs.Map.{set_value}
use Rattle.std.specs.declared.alloc.Allocator.{Ghosts}
use Rattle.svn_serials.specs.contracts.map.SerialMap.{the_row}

-- once the borrow ends, the serial has the last value written through it; without one, the map stays as it is
abbrev pub lends_value : (V A : RattleType) → Ghosts A.Denot → MutBor (List (ℕ × V.Denot)) → ℕ → Option (MutBor V.Denot) → Fml
lends_value V A alloc m serial r = LendsIf (the_row V A alloc) V m r (set_value (nat_eq serial) m.now) m.now
