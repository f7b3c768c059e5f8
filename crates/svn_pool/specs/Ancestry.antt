-- Which pools lie below which, and what is left when those go.
use Rattle.std.specs.Prelude.{◌≡◌, ◌≢◌, ℕ, zero, suc, ◌+◌, ◌<◌, [], Option, None, Some}
use Rattle.svn_pool.specs.Pools.{Entry, Pools, pool_at, parent_of, fixed_in}

-- n + 1 steps from a pool to its parent lead up from q to s
abbrev pub IsAbove : (ℕ → Option Entry) → ℕ → ℕ → ℕ → Type 0
IsAbove pools s zero q = parent_of (pools q) ≡ Some s
IsAbove pools s (suc n) q = (p : ℕ) × (parent_of (pools q) ≡ Some p) × IsAbove pools s n p

-- q is a child of s, or a child's child, and so on
abbrev pub IsBeneath : (ℕ → Option Entry) → ℕ → ℕ → Type 0
IsBeneath pools s q = (n : ℕ) × IsAbove pools s n q

-- what a clear or a destroy of s leaves alone: the pools that are neither s nor below it, the root, the serial that comes next,
-- and the fixed blocks
pub record KeepsRest (old new : Pools) (s : ℕ) : Type 0 where
  pub others : (q : ℕ) → q ≢ s → (IsBeneath (pool_at old) s q → ⊥) → pool_at new q ≡ pool_at old q
  pub root : new.root ≡ old.root
  pub next : new.next ≡ old.next
  pub blocks : new.spare + fixed_in new ≡ old.spare + fixed_in old

-- the pool s has lost its strings, and everything below it is gone
pub record IsCleared (old new : Pools) (s : ℕ) : Type 0 where
  pub emptied : pool_at new s ≡ Some (record { parent = parent_of (pool_at old s); strings = [] })
  pub beneath : (q : ℕ) → IsBeneath (pool_at old) s q → pool_at new q ≡ None
  pub rest : KeepsRest old new s

-- the pool s and everything below it is gone
pub record IsDestroyed (old new : Pools) (s : ℕ) : Type 0 where
  pub gone : pool_at new s ≡ None
  pub beneath : (q : ℕ) → IsBeneath (pool_at old) s q → pool_at new q ≡ None
  pub rest : KeepsRest old new s

-- the serial was given before, and its pool is gone
abbrev pub IsOld : Pools → ℕ → Type 0
IsOld t s = (s < t.next) × (pool_at t s ≡ None)
