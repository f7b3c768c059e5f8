-- What the tree's fields mean.
use Rattle.std.specs.Prelude.{ℕ, ◌+◌}
use Rattle.std.specs.FinMap as map
use Rattle.std.specs.Ordering.{nat_cmp}
use Rattle.svn_pool.specs.Linked.{LivePools}
use Rattle.svn_pool.specs.Pools.{Entry, Pools}

-- the live pools, by their serials
abbrev pub contents : LivePools → map.FinMap nat_cmp Entry
contents pools = map.from_entries pools

-- the pool object of a tree with that root, whose last serial is `last`
abbrev pub seen : ℕ → ℕ → LivePools → ℕ → Pools
seen root last pools spare = record { root = root; next = last + 1; live = contents pools; spare = spare }
