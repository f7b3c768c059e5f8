-- The pools of a map without their links, as one pool is put in, written or taken out.
use Rattle.std.proofs.Common.{nat_eq, ◌≡◌, ℕ, Bool, true, false, cond, List, [], ◌∷◌, map, length, Option, None, Some, is_some}
use Rattle.std.proofs.Common.{refl, sym, ap, subst, ◌∙◌}
use Rattle.std.proofs.lemmas.List.{length-map}
use Rattle.std.proofs.lemmas.List.Sorted.{IsPermutation-map}
use Rattle.std.proofs.lemmas.Map.Steps.{set_value_same}
use Rattle.svn_serials.specs.Serials.{IsRising, get}
use Rattle.svn_serials.proofs.Pairs.{Updates, distinct_from_rising, put_new}
use Rattle.std.specs.BTreeMap.{insert_entry}
use Rattle.std.specs.List.{IsDistinct}
use Rattle.std.specs.Ordering.{nat_cmp}
use Rattle.std.specs.List.Sorted.{IsPermutation}
use Rattle.std.specs.Map.{keys_of, lookup, remove_entry, set_value}
use Rattle.std.specs.Option.{option_map}
use Rattle.svn_pool.specs.Linked.{Changes, IsUnique, LinkedMap, bare, bare_entry, live_at}
use Rattle.svn_pool.specs.Pools.{Entry}
use Rattle.svn_pool.specs.declared.links.Linked.{Linked}

abbrev pub pool_in : Option (Linked Entry) → Option Entry
pool_in o = option_map (λ l. l.pool) o

lookup-bare : (k : ℕ) (es : List (ℕ × Linked Entry)) → lookup (nat_eq k) (map bare_entry es) ≡ pool_in (lookup (nat_eq k) es)
lookup-bare k [] = refl
lookup-bare k (e ∷ es) =
    elim (nat_eq k e.0) as
    (λ (b : Bool). cond b (Some e.1.pool) (lookup (nat_eq k) (map bare_entry es)) ≡ pool_in (cond b (Some e.1) (lookup (nat_eq k) es))) [
      | true ↦ refl
      | false ↦ lookup-bare k es
    ]

keys-bare : (es : List (ℕ × Linked Entry)) → keys_of (map bare_entry es) ≡ keys_of es
keys-bare [] = refl
keys-bare (e ∷ es) = ap (λ (ks : List ℕ). e.0 ∷ ks) (keys-bare es)

remove-bare : (test : ℕ → Bool) (es : List (ℕ × Linked Entry))
    → map bare_entry (remove_entry test es) ≡ remove_entry test (map bare_entry es)
remove-bare test [] = refl
remove-bare test (e ∷ es) =
    elim (test e.0) as
    (λ (b : Bool). map bare_entry (cond b es (e ∷ remove_entry test es))
    ≡ cond b (map bare_entry es) (bare_entry e ∷ remove_entry test (map bare_entry es))) [
      | true ↦ refl
      | false ↦ ap (λ (fs : List (ℕ × Entry)). bare_entry e ∷ fs) (remove-bare test es)
    ]

set-bare : (test : ℕ → Bool) (es : List (ℕ × Linked Entry)) (w : Linked Entry)
    → map bare_entry (set_value test es w) ≡ set_value test (map bare_entry es) w.pool
set-bare test [] w = refl
set-bare test (e ∷ es) w =
    elim (test e.0) as
    (λ (b : Bool). map bare_entry (cond b ((e.0, w) ∷ es) (e ∷ set_value test es w))
    ≡ cond b ((e.0, w.pool) ∷ map bare_entry es) (bare_entry e ∷ set_value test (map bare_entry es) w.pool)) [
      | true ↦ refl
      | false ↦ ap (λ (fs : List (ℕ × Entry)). bare_entry e ∷ fs) (set-bare test es w)
    ]

pub live-bare : (m : LinkedMap) (q : ℕ) → live_at (bare m) q ≡ pool_in (get m q)
live-bare m q = lookup-bare q m

-- what a search finds in the map is live
pub live-found : (m : LinkedMap) (q : ℕ) {l : Linked Entry} → Some l ≡ get m q → live_at (bare m) q ≡ Some l.pool
live-found m q found = live-bare m q ∙ ap pool_in (sym found)

-- a pool has other contents, and its links are as they were
abbrev pub holding : Linked Entry → Entry → Linked Entry
holding l e = record { pool = e; first = l.first; next = l.next; before = l.before }

is_some-pool : (o : Option (Linked Entry)) → is_some (pool_in o) ≡ is_some o
is_some-pool None = refl
is_some-pool (Some l) = refl

-- a pool is live where the map has its serial
pub is_some-bare : (m : LinkedMap) (q : ℕ) → is_some (live_at (bare m) q) ≡ is_some (get m q)
is_some-bare m q = ap is_some (live-bare m q) ∙ is_some-pool (get m q)

pub length-bare : (m : LinkedMap) → length (bare m) ≡ length m
length-bare m = length-map m bare_entry

pub unique-bare : (m : LinkedMap) → IsRising m → IsUnique (bare m)
unique-bare m rising = subst (IsDistinct nat_eq) (sym (keys-bare m)) (distinct_from_rising m rising)

module _ (m n : LinkedMap) (k : ℕ) where
  pub changes-bare : (w : Option (Linked Entry)) → Updates m n k w → Changes (bare m) (bare n) k (pool_in w)
  changes-bare w h = (live-bare n k ∙ ap pool_in h.here, λ q apart. live-bare n q ∙ ap pool_in (h.away q apart) ∙ sym (live-bare m q))

  -- one is taken out
  pub removed-bare : n ≡ remove_entry (nat_eq k) m → bare n ≡ remove_entry (nat_eq k) (bare m)
  removed-bare h = ap (map bare_entry) h ∙ remove-bare (nat_eq k) m

  -- one is put in
  pub put-bare : (w : Linked Entry) → get m k ≡ None → n ≡ insert_entry nat_cmp m k w → IsPermutation ((k, w.pool) ∷ bare m) (bare n)
  put-bare w none h =
      subst (λ (es : LinkedMap). IsPermutation ((k, w.pool) ∷ bare m) (map bare_entry es)) (sym h)
      (IsPermutation-map bare_entry ((k, w) ∷ m) (insert_entry nat_cmp m k w) (put_new m k w none))

  -- one is written
  pub written-bare : (w : Linked Entry) → n ≡ set_value (nat_eq k) m w → bare n ≡ set_value (nat_eq k) (bare m) w.pool
  written-bare w h = ap (map bare_entry) h ∙ set-bare (nat_eq k) m w

  -- and its links alone are others
  pub relinked-bare : (v w : Linked Entry) → get m k ≡ Some v → w.pool ≡ v.pool → n ≡ set_value (nat_eq k) m w → bare n ≡ bare m
  relinked-bare v w found same h =
      written-bare w h ∙ ap (set_value (nat_eq k) (bare m)) same
      ∙ set_value_same (nat_eq k) (bare m) v.pool (live-bare m k ∙ ap pool_in found)
