-- Laws of the pool object, which follow from what the calls do.
use Rattle.std.specs.Prelude.{◌≡◌, ◌≢◌, ℕ, List, [], Some, IsSome}
use Rattle.std.specs.FinMap as map
use Rattle.svn_pool.specs.Ancestry.{IsCleared, IsDestroyed, IsOld}
use Rattle.svn_pool.specs.Pools.{Pools, pool_at, parent_of, strings_at, created, pushed}
use Rattle.svn_pool.specs.Refusals.{create_fault, push_fault, clear_fault, destroy_fault}
use Rattle.svn_pool.specs.declared.fault.PoolFault.TheVariants.{Gone}

-- what the calls return for a serial whose pool is gone
pub record AnswersGone (t : Pools) (s : ℕ) : Type 0 where
  pub create : create_fault t s ≡ Some Gone
  pub push : (n : ℕ) → push_fault t s n ≡ Some Gone
  pub clear : clear_fault t s ≡ Some Gone
  pub destroy : destroy_fault t s ≡ Some Gone
  pub get : strings_at t s ≡ []

-- a serial whose pool is gone answers so
abbrev pub OldIsGone : Type 0
OldIsGone = (t : Pools) (s : ℕ) → IsOld t s → AnswersGone t s

-- and it stays old through each call that changes something
pub record StaysOld (t : Pools) (s : ℕ) : Type 0 where
  pub create : (p : ℕ) → IsOld (created t p) s
  pub push : (r : ℕ) (bs : List ℕ) → IsSome (pool_at t r) → IsOld (pushed t r bs) s
  pub clear : (r : ℕ) (u : Pools) → IsSome (pool_at t r) → IsCleared t u r → IsOld u s
  pub destroy : (r : ℕ) (u : Pools) → IsSome (pool_at t r) → IsDestroyed t u r → IsOld u s

abbrev pub OldStaysOld : Type 0
OldStaysOld = (t : Pools) (s : ℕ) → IsOld t s → StaysOld t s

-- a pool without children goes alone
abbrev pub LeafGoesAlone : Type 0
LeafGoesAlone = (t u : Pools) (s : ℕ) → ((c : ℕ) → parent_of (pool_at t c) ≢ Some s) → IsDestroyed t u s → u.live ≡ map.remove t.live s
