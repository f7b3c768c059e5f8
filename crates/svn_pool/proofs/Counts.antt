-- What is counted over all pools, after one was put in, written or taken out.
use Rattle.std.proofs.Common.{nat_eq, ◌≡◌, ℕ, ◌+◌, ◌-◌, ◌≤◌, ◌∷◌, Option, Some, sym, ap, ◌∙◌, arith}
use Rattle.std.proofs.lemmas.List.Sums.{sum_by-cons}
use Rattle.std.proofs.lemmas.Map.Entries.{sum_by-remove_entry, sum_by-set_value, sum_by_values_permutation}
use Rattle.std.specs.List.{sum_by}
use Rattle.std.specs.List.Sorted.{IsPermutation}
use Rattle.std.specs.Map.{remove_entry, set_value, values_of}
use Rattle.std.specs.Option.{option_map, unwrap_or}
use Rattle.svn_serials.specs.Serials.{get}
use Rattle.svn_pool.specs.Linked.{LinkedMap, LivePools, bare, blocks_held, fixed_held, live_at}
use Rattle.svn_pool.specs.Pools.{Entry, blocks_of, fixed_of}
use Rattle.svn_pool.specs.Stores.{Store, given_up}
use Rattle.svn_pool.specs.declared.links.Linked.{Linked}
use Rattle.svn_pool.proofs.Bare.{holding, live-bare, live-found, pool_in, removed-bare, written-bare}

module _ (f : Entry → ℕ) (m n : LivePools) (s : ℕ) (e : Entry) where
  abbrev total : LivePools → ℕ
  total es = sum_by f (values_of es)

  pub sum_without : n ≡ remove_entry (nat_eq s) m → live_at m s ≡ Some e → total n + f e ≡ total m
  sum_without entries found =
      ap (λ (es : LivePools). total es + f e) entries
      ∙ ap (λ (o : Option Entry). total (remove_entry (nat_eq s) m) + unwrap_or (option_map f o) 0) (sym found)
      ∙ sum_by-remove_entry f (nat_eq s) m

  pub sum_with : IsPermutation ((s, e) ∷ m) n → total n ≡ total m + f e
  sum_with entries =
      let same = sum_by_values_permutation f ((s, e) ∷ m) n entries in
      let more = sum_by-cons f e (values_of m) in
      omega (arith, same, more)

-- of a pool that a search finds
module _ (f : Entry → ℕ) (m : LinkedMap) (k : ℕ) {l : Linked Entry} (found : Some l ≡ get m k) where
  pub sum_within : f l.pool ≤ sum_by f (values_of (bare m))
  sum_within =
      let all = sum_by-remove_entry f (nat_eq k) (bare m) in
      let one : unwrap_or (option_map f (live_at (bare m) k)) 0 ≡ f l.pool =
      ap (λ (o : Option Entry). unwrap_or (option_map f o) 0) (live-found m k found) in
      omega (arith, all, one)

  pub sum_written : (n : LinkedMap) (e : Entry) → n ≡ set_value (nat_eq k) m (holding l e)
      → sum_by f (values_of (bare n)) + f l.pool ≡ sum_by f (values_of (bare m)) + f e
  sum_written n e entries =
      ap (λ (es : LivePools). sum_by f (values_of es) + f l.pool) (written-bare m n k (holding l e) entries)
      ∙ sum_by-set_value f (nat_eq k) (bare m) l.pool e (live-found m k found)

-- a pool is taken out, and its strings are given up
module _ (old mid : LinkedMap) (s : ℕ) (l : Linked Entry) (found : get old s ≡ Some l)
    (entries : mid ≡ remove_entry (nat_eq s) old) (before : Store)
    (counted : before.used ≡ blocks_held (bare old)) where
  blocks : blocks_held (bare mid) + blocks_of l.pool ≡ blocks_held (bare old)
  blocks =
      sum_without blocks_of (bare old) (bare mid) s l.pool (removed-bare old mid s entries) (live-bare old s ∙ ap pool_in found)

  fixed : fixed_held (bare mid) + fixed_of l.pool ≡ fixed_held (bare old)
  fixed =
      sum_without fixed_of (bare old) (bare mid) s l.pool (removed-bare old mid s entries) (live-bare old s ∙ ap pool_in found)

  pub blocks_within : blocks_of l.pool ≤ before.used
  blocks_within = omega (arith, blocks, counted)

  module _ (after : Store) (counts : after ≡ given_up before l.pool.strings) where
    pub blocks_left : after.used ≡ blocks_held (bare mid)
    blocks_left =
        let used : after.used ≡ before.used - blocks_of l.pool = ap (λ (b : Store). b.used) counts in
        omega (arith, blocks, counted, used)

    pub fixed_left : after.spare + fixed_held (bare mid) ≡ before.spare + fixed_held (bare old)
    fixed_left =
        let spare : after.spare ≡ before.spare + fixed_of l.pool = ap (λ (b : Store). b.spare) counts in
        omega (arith, fixed, spare)
