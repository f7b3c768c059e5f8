-- How the tree holds its pools: by their serials, each with links to its first child and to the siblings beside it.
use Rattle.std.specs.Prelude.{nat_eq, ◌≡◌, ◌≢◌, ◌⊎◌, ℕ, ◌<◌, ◌≤◌, List, [], map, Option, None, Some, IsSome, IsSomeAnd, option_map}
use Rattle.svn_serials.specs.Serials.{get}
use Rattle.std.specs.List.{sum_by, IsDistinct}
use Rattle.std.specs.Map.{keys_of, lookup, values_of}
use Rattle.svn_pool.specs.Ancestry.{IsBeneath}
use Rattle.svn_pool.specs.Pools.{Entry, parent_of, blocks_of, fixed_of}
use Rattle.svn_pool.specs.declared.links.Linked.{Linked}
use Rattle.svn_pool.specs.declared.links.Anchor.{Anchor}
use Rattle.svn_pool.specs.declared.links.Anchor.TheVariants.{First, Next}

-- the live pools by their serials, each with its links
abbrev pub LinkedMap : Type 0
LinkedMap = List (ℕ × Linked Entry)

-- the live pools with their serials
abbrev pub LivePools : Type 0
LivePools = List (ℕ × Entry)

abbrev pub bare_entry : ℕ × Linked Entry → ℕ × Entry
bare_entry e = (e.0, e.1.pool)

-- the pools of a map, without their links
abbrev pub bare : LinkedMap → LivePools
bare pools = map bare_entry pools

-- the live pool of serial s
abbrev pub live_at : LivePools → ℕ → Option Entry
live_at pools s = lookup (nat_eq s) pools

-- each serial is there once
abbrev pub IsUnique : LivePools → Type 0
IsUnique pools = IsDistinct nat_eq (keys_of pools)

-- the pool s is w now, where `None` takes it out, and the others are as they were
abbrev pub Changes : LivePools → LivePools → ℕ → Option Entry → Type 0
Changes old new s w = (live_at new s ≡ w) × ((q : ℕ) → q ≢ s → live_at new q ≡ live_at old q)

abbrev pub first_of : Option (Linked Entry) → Option ℕ
first_of None = None
first_of (Some l) = l.first

abbrev pub next_of : Option (Linked Entry) → Option ℕ
next_of None = None
next_of (Some l) = l.next

-- the sibling that a pool at a place follows
abbrev pub sibling_before : Anchor → Option ℕ
sibling_before (First p) = None
sibling_before (Next q) = Some q

-- where there is a pool with that parent that follows that sibling
abbrev pub place_by : Option ℕ → Option ℕ → Option Anchor
place_by parent (Some q) = Some (Next q)
place_by parent None = option_map First parent

abbrev pub place_in : Option (Linked Entry) → Option Anchor
place_in None = None
place_in (Some l) = place_by l.pool.parent l.before

-- the pool whose link a place is
abbrev pub holder : Anchor → ℕ
holder (First p) = p
holder (Next q) = q

-- the pool that is at a place
abbrev pub standing : LinkedMap → Anchor → Option ℕ
standing pools (First p) = first_of (get pools p)
standing pools (Next q) = next_of (get pools q)

-- where a pool is
abbrev pub place_of : LinkedMap → ℕ → Option Anchor
place_of pools c = place_in (get pools c)

abbrev pub parent_in : LinkedMap → ℕ → Option ℕ
parent_in pools c = parent_of (live_at (bare pools) c)

-- what is at a place, and where a pool is, are inverse
pub record IsInverse (at : Anchor → Option ℕ) (place : ℕ → Option Anchor) : Type 0 where
  pub there : (x : Anchor) (c : ℕ) → at x ≡ Some c → place c ≡ Some x
  pub back : (x : Anchor) (c : ℕ) → place c ≡ Some x → at x ≡ Some c

-- only children have a place: one as its parent's first child, and each other after a sibling that is newer
pub record IsKin (parent : ℕ → Option ℕ) (place : ℕ → Option Anchor) : Type 0 where
  pub placed : (c p : ℕ) → parent c ≡ Some p → IsSome (place c)
  pub first : (c p : ℕ) → place c ≡ Some (First p) → parent c ≡ Some p
  pub next : (c q : ℕ) → place c ≡ Some (Next q) → IsSome (parent c) × (parent q ≡ parent c) × (c < q)

-- the links are those of the pools to their children; a parent is live, and older
pub record IsLinked (pools : LinkedMap) : Type 0 where
  pub inverse : IsInverse (standing pools) (place_of pools)
  pub kin : IsKin (parent_in pools) (place_of pools)
  pub older : (p c : ℕ) → parent_in pools c ≡ Some p → IsSome (live_at (bare pools) p) × (p < c)
  pub small : (c : ℕ) → IsSome (live_at (bare pools) c) → c < 18446744073709551616
  pub unique : IsUnique (bare pools)

-- no live pool has the parent s
abbrev pub IsLeaf : LivePools → ℕ → Type 0
IsLeaf pools s = (c : ℕ) → parent_of (live_at pools c) ≢ Some s

-- b is the parent of the pool s, or another child of that parent
abbrev pub IsBeside : LivePools → ℕ → ℕ → Type 0
IsBeside pools s b =
    let parent = parent_of (live_at pools s) in
    (parent ≡ Some b) ⊎ ((b ≢ s) × IsSome parent × (parent_of (live_at pools b) ≡ parent))

abbrev pub blocks_held : LivePools → ℕ
blocks_held pools = sum_by blocks_of (values_of pools)

abbrev pub fixed_held : LivePools → ℕ
fixed_held pools = sum_by fixed_of (values_of pools)

-- everything below s is gone, and the others are as they were
pub record IsPruned (old new : LivePools) (s : ℕ) : Type 0 where
  pub beneath : (q : ℕ) → IsBeneath (live_at old) s q → live_at new q ≡ None
  pub others : (q : ℕ) → (IsBeneath (live_at old) s q → ⊥) → live_at new q ≡ live_at old q
  pub fewer : (q : ℕ) → live_at old q ≡ None → live_at new q ≡ None
  pub leaf : IsLeaf new s

-- the pool s is there alone, without parent, strings and links
pub record IsAlone (pools : LinkedMap) (s : ℕ) : Type 0 where
  pub here : get pools s ≡ Some (record { pool = record { parent = None; strings = [] }; first = None; next = None; before = None })
  pub others : (q : ℕ) → q ≢ s → get pools q ≡ None
  pub unique : IsUnique (bare pools)
  pub blocks : blocks_held (bare pools) ≡ 0
  pub fixed : fixed_held (bare pools) ≡ 0

-- what the tree keeps of its fields
pub record IsTree (pools : LinkedMap) (root last used : ℕ) : Type 0 where
  pub linked : IsLinked pools
  pub rooted : IsSomeAnd (live_at (bare pools) root) (λ e. e.parent ≡ None)
  pub others : (s : ℕ) → IsSome (live_at (bare pools) s) → s ≢ root → IsSome (parent_in pools s)
  pub below : (s : ℕ) → IsSome (live_at (bare pools) s) → s ≤ last
  pub counted : used ≡ blocks_held (bare pools)
