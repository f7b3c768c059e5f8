-- Why a call on the tree is refused, apart from Memory, in the order of the tests.
use Rattle.std.specs.Prelude.{ℕ, nat_le, nat_eq, if◌then◌else◌, Option, None, Some}
use Rattle.svn_pool.specs.Pools.{Entry, Pools, pool_at, store_of}
use Rattle.svn_pool.specs.Stores.{string_fault}
use Rattle.svn_pool.specs.declared.fault.PoolFault.{PoolFault}
use Rattle.svn_pool.specs.declared.fault.PoolFault.TheVariants.{Gone, IsRoot, Full}

-- where a pool is gone that is so, and else what is said of the live one
abbrev pub fault_if_live : Option Entry → (Entry → Option PoolFault) → Option PoolFault
fault_if_live None f = Some Gone
fault_if_live (Some e) f = f e

-- no serial is left
abbrev pub create_fault : Pools → ℕ → Option PoolFault
create_fault t p = fault_if_live (pool_at t p) (λ _. if nat_le 18446744073709551616 t.next then Some Full else None)

-- the string is too long, or no place or no block is left
abbrev pub push_fault : Pools → ℕ → ℕ → Option PoolFault
push_fault t s n = fault_if_live (pool_at t s) (λ e. string_fault (store_of t) e.strings n)

abbrev pub read_fault : Pools → ℕ → Option PoolFault
read_fault t s = fault_if_live (pool_at t s) (λ _. None)

abbrev pub clear_fault : Pools → ℕ → Option PoolFault
clear_fault t s = fault_if_live (pool_at t s) (λ _. None)

abbrev pub destroy_fault : Pools → ℕ → Option PoolFault
destroy_fault t s = fault_if_live (pool_at t s) (λ _. if nat_eq s t.root then Some IsRoot else None)
