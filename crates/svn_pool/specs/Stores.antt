-- The blocks that are in use and those that are spare.
use Rattle.std.specs.Prelude.{ℕ, ◌+◌, ◌-◌, Bool, true, nat_le, nat_eq, if◌then◌else◌, ◌&&◌, not, Option, None, Some, List, length}
use Rattle.svn_pool.specs.Layout.{layout}
use Rattle.svn_pool.specs.declared.fault.PoolFault.{PoolFault}
use Rattle.svn_pool.specs.declared.fault.PoolFault.TheVariants.{Full, TooLong}

-- `used` blocks hold the strings of live pools; `spare` fixed blocks wait for others
pub record Store : Type 0 where
  pub used : ℕ
  pub spare : ℕ

-- a spare block serves a string of n bytes
abbrev pub serves : Store → ℕ → Bool
serves b n = nat_le n 8188 && nat_le 1 b.spare

-- a block for a string of n bytes was taken: a spare one where that serves
abbrev pub taken : Store → ℕ → Store
taken b n = record { used = b.used + 1; spare = if serves b n then b.spare - 1 else b.spare }

-- why no block can be taken, apart from Memory: both counts together fit 64 bits
abbrev pub take_fault : Store → ℕ → Option PoolFault
take_fault b n = if serves b n then None else (if nat_eq (b.used + b.spare) 18446744073709551615 then Some Full else None)

-- the blocks of strings are given up: the fixed ones become spare
abbrev pub given_up : Store → List (List ℕ) → Store
given_up b ss = record { used = b.used - ((layout ss).fixed + (layout ss).large); spare = b.spare + (layout ss).fixed }

-- whether a string of n bytes fits the newest block
abbrev pub fits : List (List ℕ) → ℕ → Bool
fits ss n = nat_le (n + 4) (layout ss).room

-- the blocks after a string of n bytes follows the strings ss
abbrev pub stored : Store → List (List ℕ) → ℕ → Store
stored b ss n = if fits ss n then b else taken b n

-- why a string of n bytes can't follow the strings ss, apart from Memory, in the order of the tests
abbrev pub string_fault : Store → List (List ℕ) → ℕ → Option PoolFault
string_fault b ss n = if not (nat_le n 1048576) then Some TooLong
    else (if nat_eq (length ss) 4294967295 then Some Full else (if fits ss n then None else take_fault b n))

-- such a string needs no memory
abbrev pub needs_none : Store → List (List ℕ) → ℕ → Bool
needs_none b ss n = if fits ss n then true else serves b n
