-- The links stay those of the pools, as a pool is put in, written or taken out.
use Rattle.std.proofs.Common.{nat_eq, ◌≡◌, ◌≢◌, ◌⊎◌, ℕ, ◌<◌, List, [], map, Option, None, Some, IsSome, is_some, refl, sym}
use Rattle.std.proofs.Common.{ap, subst, ◌∙◌, inl, inr, arith}
use Rattle.std.proofs.Math.Path.{transport}
use Rattle.std.proofs.lemmas.Bool.{cases_eq}
use Rattle.std.proofs.lemmas.Option.{none-some, same_Some}
use Rattle.svn_lists.proofs.Options.{none_from_test, none_from_not_some, not_some_from_none}
use Rattle.svn_serials.specs.Serials.{IsRising, get}
use Rattle.svn_serials.proofs.Pairs.{Updates}
use Rattle.std.specs.Map.{lookup}
use Rattle.svn_pool.specs.Linked.{Changes, IsBeside, IsInverse, IsKin, IsLeaf, IsLinked, IsUnique, LinkedMap, LivePools, bare}
use Rattle.svn_pool.specs.Linked.{bare_entry, first_of, holder, live_at, next_of}
use Rattle.svn_pool.specs.Linked.{parent_in, place_by, place_in, place_of, standing}
use Rattle.svn_pool.specs.Pools.{Entry, parent_of}
use Rattle.svn_pool.specs.declared.links.Linked.{Linked}
use Rattle.svn_pool.specs.declared.links.Anchor.{Anchor}
use Rattle.svn_pool.specs.declared.links.Anchor.TheVariants.{First, Next}
use Rattle.svn_pool.proofs.Bare.{changes-bare, holding, is_some-bare, live-bare, pool_in, unique-bare}
use Rattle.svn_pool.proofs.Siblings.{first_or_next, inverse_with, inverse_without, kin_with, kin_without, same_place}

-- what has a parent is live
pub live_child : (o : Option Entry) (p : ℕ) → parent_of o ≡ Some p → IsSome o
live_child None p e = absurd (let no : ⊥ = cc in no)
live_child (Some x) p e = refl

-- what has a place is live, and so is what holds one
placed_live : (o : Option (Linked Entry)) (x : Anchor) → place_in o ≡ Some x → IsSome o
placed_live None x e = absurd (none-some x e)
placed_live (Some l) x e = refl

first_live : (o : Option (Linked Entry)) (c : ℕ) → first_of o ≡ Some c → IsSome o
first_live None c e = absurd (none-some c e)
first_live (Some l) c e = refl

next_live : (o : Option (Linked Entry)) (c : ℕ) → next_of o ≡ Some c → IsSome o
next_live None c e = absurd (none-some c e)
next_live (Some l) c e = refl

holder_live : (m : LinkedMap) (x : Anchor) (c : ℕ) → standing m x ≡ Some c → IsSome (get m (holder x))
holder_live m (First p) c e = first_live (get m p) c e
holder_live m (Next q) c e = next_live (get m q) c e

-- what is at a place depends on its holder alone
same_holder : (m n : LinkedMap) (x : Anchor) → get n (holder x) ≡ get m (holder x) → standing n x ≡ standing m x
same_holder m n (First p) e = ap first_of e
same_holder m n (Next q) e = ap next_of e

unheld : (m : LinkedMap) (x : Anchor) → get m (holder x) ≡ None → standing m x ≡ None
unheld m (First p) e = ap first_of e
unheld m (Next q) e = ap next_of e

-- a place of the pool s is one of two
held_by : (x : Anchor) (s : ℕ) → holder x ≡ s → (x ≡ First s) ⊎ (x ≡ Next s)
held_by (First p) s e = inl (ap First e)
held_by (Next q) s e = inr (ap Next e)

inverse_same : (at at' : Anchor → Option ℕ) (place place' : ℕ → Option Anchor) → IsInverse at place → ((x : Anchor) → at' x ≡ at x)
    → ((c : ℕ) → place' c ≡ place c) → IsInverse at' place'
inverse_same at at' place place' inverse same moved = record {
  there = λ x c e. moved c ∙ inverse.there x c (sym (same x) ∙ e);
  back = λ x c e. same x ∙ inverse.back x c (sym (moved c) ∙ e);
}

kin_same : (parent parent' : ℕ → Option ℕ) (place place' : ℕ → Option Anchor) → IsKin parent place → ((c : ℕ) → parent' c ≡ parent c)
    → ((c : ℕ) → place' c ≡ place c) → IsKin parent' place'
kin_same parent parent' place place' kin same moved = record {
  placed = λ c p e. ap is_some (moved c) ∙ kin.placed c p (sym (same c) ∙ e);
  first = λ c p e. same c ∙ kin.first c p (sym (moved c) ∙ e);
  next = λ c q e. let old = kin.next c q (sym (moved c) ∙ e) in (ap is_some (same c) ∙ old.0, same q ∙ old.1 ∙ sym (same c), old.2);
}

-- the same links, and pools that are live and have the same parents as before
pub linked-same : (m n : LinkedMap) → IsLinked m → ((x : Anchor) → standing n x ≡ standing m x) → ((c : ℕ) → place_of n c ≡ place_of m c)
    → ((c : ℕ) → parent_in n c ≡ parent_in m c) → ((c : ℕ) → is_some (live_at (bare n) c) ≡ is_some (live_at (bare m) c))
    → IsUnique (bare n) → IsLinked n
linked-same m n linked same moved parents live unique = record {
  inverse = inverse_same (standing m) (standing n) (place_of m) (place_of n) linked.inverse same moved;
  kin = kin_same (parent_in m) (parent_in n) (place_of m) (place_of n) linked.kin parents moved;
  older = λ p c e. let was = linked.older p c (sym (parents c) ∙ e) in (live p ∙ was.0, was.1);
  small = λ c h. linked.small c (sym (live c) ∙ h);
  unique = unique;
}

-- a map with the same entries
pub linked-again : (m n : LinkedMap) → IsLinked m → ((c : ℕ) → get n c ≡ get m c) → IsRising n → IsLinked n
linked-again m n linked same unique =
    let pool : (c : ℕ) → live_at (bare n) c ≡ live_at (bare m) c = λ c. live-bare n c ∙ ap pool_in (same c) ∙ sym (live-bare m c) in
    linked-same m n linked (λ x. same_holder m n x (same (holder x))) (λ c. ap place_in (same c)) (λ c. ap parent_of (pool c))
    (λ c. ap is_some (pool c)) (unique-bare n unique)

-- one pool has other strings
pub linked-written : (m n : LinkedMap) → IsLinked m → (s : ℕ) (l : Linked Entry) (w : Entry) → get m s ≡ Some l
    → w.parent ≡ l.pool.parent → Updates m n s (Some (holding l w)) → IsRising n → IsLinked n
linked-written m n linked s l w found parent put unique =
    let e : Linked Entry = holding l w in
    let here = put.here in
    let away : (c : ℕ) → c ≢ s → get n c ≡ get m c = put.away in
    let change = changes-bare m n s (Some e) put in
    let firsts : (c : ℕ) → first_of (get n c) ≡ first_of (get m c) = λ c. elim (cases_eq c s) [
      | inl is ↦ ap (λ (k : ℕ). first_of (get n k)) is ∙ ap first_of here ∙ sym (ap first_of found)
          ∙ ap (λ (k : ℕ). first_of (get m k)) (sym is)
      | inr apart ↦ ap first_of (away c apart)
    ] in
    let nexts : (c : ℕ) → next_of (get n c) ≡ next_of (get m c) = λ c. elim (cases_eq c s) [
      | inl is ↦ ap (λ (k : ℕ). next_of (get n k)) is ∙ ap next_of here ∙ sym (ap next_of found)
          ∙ ap (λ (k : ℕ). next_of (get m k)) (sym is)
      | inr apart ↦ ap next_of (away c apart)
    ] in
    linked-same m n linked (by firsts nexts)
    (λ c. elim (cases_eq c s) [
      | inl is ↦ ap (place_of n) is ∙ ap place_in here ∙ (λ i. place_by (parent i) l.before) ∙ sym (ap place_in found)
          ∙ ap (place_of m) (sym is)
      | inr apart ↦ ap place_in (away c apart)
    ])
    (λ c. elim (cases_eq c s) [
      | inl is ↦
          ap (parent_in n) is ∙ ap parent_of change.0 ∙ parent ∙ sym (ap parent_of (live-bare m s ∙ ap pool_in found))
          ∙ ap (parent_in m) (sym is)
      | inr apart ↦ ap parent_of (change.1 c apart)
    ])
    (λ c. elim (cases_eq c s) [
      | inl is ↦
          ap (λ (k : ℕ). is_some (live_at (bare n) k)) is ∙ ap is_some change.0 ∙ sym (ap is_some (live-bare m s ∙ ap pool_in found))
          ∙ ap (λ (k : ℕ). is_some (live_at (bare m) k)) (sym is)
      | inr apart ↦ ap is_some (change.1 c apart)
    ])
    (unique-bare n unique)
  where
    by : ((c : ℕ) → first_of (get n c) ≡ first_of (get m c)) → ((c : ℕ) → next_of (get n c) ≡ next_of (get m c))
        → (x : Anchor) → standing n x ≡ standing m x
    by firsts nexts (First p) = firsts p
    by firsts nexts (Next q) = nexts q

-- the pool z is at x, by the link of its holder
pub record IsStood (m n : LinkedMap) (x : Anchor) (z : Option ℕ) : Type 0 where
  pub here : IsSome (get m (holder x)) → standing n x ≡ z
  pub others : (y : Anchor) → y ≢ x → standing n y ≡ standing m y
  pub places : (c : ℕ) → place_of n c ≡ place_of m c
  pub pools : bare n ≡ bare m

-- and by its own
pub record IsMoved (m n : LinkedMap) (z : Option ℕ) (x : Anchor) : Type 0 where
  pub moved : (c : ℕ) → z ≡ Some c → IsSome (get m c) → ((p : ℕ) → x ≡ First p → parent_in m c ≡ Some p) → place_of n c ≡ Some x
  pub others : (c : ℕ) → z ≢ Some c → place_of n c ≡ place_of m c
  pub standing : (y : Anchor) → standing n y ≡ standing m y
  pub pools : bare n ≡ bare m

-- which pools are live is seen without the links
live_same : (m n : LinkedMap) → bare n ≡ bare m → (c : ℕ) → is_some (get n c) ≡ is_some (get m c)
live_same m n same c = sym (is_some-bare n c) ∙ ap (λ (ps : LivePools). is_some (live_at ps c)) same ∙ is_some-bare m c

pub live_after : (m n : LinkedMap) → bare n ≡ bare m → (c : ℕ) → IsSome (get m c) → IsSome (get n c)
live_after m n same c h = live_same m n same c ∙ h

-- the links of a pool but for its first child are as they were, and so are all others
pub record IsLed (m n : LinkedMap) (p : ℕ) (z : Option ℕ) : Type 0 where
  pub first : IsSome (get m p) → first_of (get n p) ≡ z
  pub next : next_of (get n p) ≡ next_of (get m p)
  pub place : place_in (get n p) ≡ place_in (get m p)
  pub others : (q : ℕ) → q ≢ p → get n q ≡ get m q
  pub pools : bare n ≡ bare m

module _ (m n : LinkedMap) (p : ℕ) (z : Option ℕ) (led : IsLed m n p z) where
  led_others : (y : Anchor) → y ≢ First p → standing n y ≡ standing m y
  led_others (First q) apart = ap first_of (led.others q (λ is. apart (ap First is)))
  led_others (Next q) apart = elim (cases_eq q p) [
    | inl is ↦ ap (λ (k : ℕ). next_of (get n k)) is ∙ led.next ∙ ap (λ (k : ℕ). next_of (get m k)) (sym is)
    | inr other ↦ ap next_of (led.others q other)
  ]

  led_places : (c : ℕ) → place_of n c ≡ place_of m c
  led_places c = elim (cases_eq c p) [
    | inl is ↦ ap (place_of n) is ∙ led.place ∙ ap (place_of m) (sym is)
    | inr apart ↦ ap place_in (led.others c apart)
  ]

  led_stands : IsStood m n (First p) z
  led_stands = record { here = led.first; others = led_others; places = led_places; pools = led.pools }

  -- the same first child as before
  pub linked-led : IsLinked m → (IsSome (get m p) → standing m (First p) ≡ z) → IsLinked n
  linked-led linked same =
      linked-same m n linked
      (λ y. elim (same_place y (First p)) [
        | inl is ↦ ap (standing n) is ∙ here (get m p) refl ∙ ap (standing m) (sym is)
        | inr apart ↦ led_others y apart
      ])
      led_places (λ c. ap (λ (ps : LivePools). parent_of (live_at ps c)) led.pools)
      (λ c. ap (λ (ps : LivePools). is_some (live_at ps c)) led.pools) (subst IsUnique (sym led.pools) linked.unique)
    where
      here : (o : Option (Linked Entry)) → get m p ≡ o → first_of (get n p) ≡ first_of (get m p)
      here None none =
          ap first_of (none_from_test (get n p) (live_same m n led.pools p ∙ ap is_some none)) ∙ sym (ap first_of none)
      here (Some l) found = let live = ap is_some found in led.first live ∙ sym (same live)

-- the first child is set again, in a map with the same entries
pub led_again : (m l k n : LinkedMap) (p : ℕ) (y z : Option ℕ) → IsLed m l p y → k ≡ l → IsLed k n p z → IsLed m n p z
led_again m l k n p y z led same again =
    let at : (q : ℕ) → get k q ≡ get l q = λ q. ap (λ (es : List (ℕ × Linked Entry)). lookup (nat_eq q) es) same in
    record {
      first = λ live. again.first (ap is_some (at p) ∙ live_after m l led.pools p live);
      next = again.next ∙ ap next_of (at p) ∙ led.next;
      place = again.place ∙ ap place_in (at p) ∙ led.place;
      others = λ q apart. again.others q apart ∙ at q ∙ led.others q apart;
      pools = again.pools ∙ ap (λ (es : List (ℕ × Linked Entry)). map bare_entry es) same ∙ led.pools;
    }

-- what follows a pool is beside it, and so is the pool whose link its place is
pub next_beside : (m : LinkedMap) → IsLinked m → (s c : ℕ) → standing m (Next s) ≡ Some c → IsBeside (bare m) s c
next_beside m linked s c e =
    let its = linked.kin.next c s (linked.inverse.there (Next s) c e) in
    inr (λ is. let lt = its.2 in omega (arith, is, lt), subst IsSome (sym its.1) its.0, sym its.1)

pub holder_beside : (m : LinkedMap) → IsLinked m → (s : ℕ) (x : Anchor) → place_of m s ≡ Some x → IsBeside (bare m) s (holder x)
holder_beside m linked s (First p) e = inl (linked.kin.first s p e)
holder_beside m linked s (Next q) e =
    let its = linked.kin.next s q e in
    inr (λ is. let lt = its.2 in omega (arith, is, lt), its.0, its.1)

-- the pool s is gone
module _ (old mid : LinkedMap) (linked : IsLinked old) (s : ℕ) (leaf : IsLeaf (bare old) s) (l : Linked Entry)
    (found : get old s ≡ Some l) (gone : Updates old mid s None) (unique : IsRising mid) where
  at_s : get mid s ≡ None
  at_s = gone.here

  away : (c : ℕ) → c ≢ s → get mid c ≡ get old c
  away = gone.away

  change : Changes (bare old) (bare mid) s None
  change = changes-bare old mid s None gone

  not_own_parent : parent_in old s ≡ Some s → ⊥
  not_own_parent e = let lt = (linked.older s s e).1 in omega (arith, lt)

  no_first : standing old (First s) ≡ None
  no_first = by (standing old (First s)) refl
    where
      by : (o : Option ℕ) → standing old (First s) ≡ o → o ≡ None
      by None e = refl
      by (Some c) e = absurd (leaf c (linked.kin.first c s (linked.inverse.there (First s) c e)))

  not_next : l.next ≢ Some s
  not_next e =
      let lt = (linked.kin.next s s (linked.inverse.there (Next s) s (ap next_of found ∙ e))).2 in
      omega (arith, lt)

  -- but for its own links except the next, all are where they were
  same_standing : (y : Anchor) → y ≢ Next s → standing mid y ≡ standing old y
  same_standing y apart = elim (cases_eq (holder y) s) [
    | inl is ↦ elim (held_by y s is) [
      | inl first ↦ unheld mid y (ap (get mid) is ∙ at_s) ∙ sym (ap (standing old) first ∙ no_first)
      | inr next ↦ absurd (apart next)
    ]
    | inr other ↦ same_holder old mid y (away (holder y) other)
  ]

  keeps_linked : (new : LinkedMap) → bare new ≡ bare mid → IsInverse (standing new) (place_of new)
      → IsKin (parent_in new) (place_of new) → IsLinked new
  keeps_linked new same inverse kin =
      let here : live_at (bare new) s ≡ None = ap (λ (ps : LivePools). live_at ps s) same ∙ change.0 in
      let left : (c : ℕ) → c ≢ s → live_at (bare new) c ≡ live_at (bare old) c =
      λ c apart. ap (λ (ps : LivePools). live_at ps c) same ∙ change.1 c apart in
      let not_s : (c : ℕ) → IsSome (live_at (bare new) c) → c ≢ s =
      λ c h is. not_some_from_none (live_at (bare new) c) (ap (live_at (bare new)) is ∙ here) h in
      record {
        inverse = inverse;
        kin = kin;
        older = λ p c e.
            let apart : c ≢ s = not_s c (live_child (live_at (bare new) c) p e) in
            let before : parent_in old c ≡ Some p = sym (ap parent_of (left c apart)) ∙ e in
            let was = linked.older p c before in
            let kept : p ≢ s = λ is. leaf c (before ∙ ap Some is) in
            (ap is_some (left p kept) ∙ was.0, was.1);
        small = λ c h. linked.small c (subst IsSome (left c (not_s c h)) h);
        unique = subst IsUnique (sym same) (unique-bare mid unique);
      }

  -- it was nowhere
  pub linked-unplaced : place_by l.pool.parent l.before ≡ None → IsLinked mid
  linked-unplaced none =
      let place : place_of old s ≡ None = ap place_in found ∙ none in
      let parent : parent_in old s ≡ None =
      none_from_not_some (parent_in old s) (λ h. by (parent_in old s) refl h place) in
      let next : standing old (Next s) ≡ None = no_next place parent (standing old (Next s)) refl in
      let standings : (y : Anchor) → standing mid y ≡ standing old y = λ y. elim (cases_eq (holder y) s) [
        | inl is ↦ elim (held_by y s is) [
          | inl first ↦ unheld mid y (ap (get mid) is ∙ at_s) ∙ sym (ap (standing old) first ∙ no_first)
          | inr at ↦ unheld mid y (ap (get mid) is ∙ at_s) ∙ sym (ap (standing old) at ∙ next)
        ]
        | inr other ↦ same_holder old mid y (away (holder y) other)
      ] in
      let places : (c : ℕ) → place_of mid c ≡ place_of old c = λ c. elim (cases_eq c s) [
        | inl is ↦ ap (place_of mid) is ∙ ap place_in at_s ∙ sym (ap (place_of old) is ∙ place)
        | inr apart ↦ ap place_in (away c apart)
      ] in
      let parents : (c : ℕ) → parent_in mid c ≡ parent_in old c = λ c. elim (cases_eq c s) [
        | inl is ↦ ap (parent_in mid) is ∙ ap parent_of change.0 ∙ sym (ap (parent_in old) is ∙ parent)
        | inr apart ↦ ap parent_of (change.1 c apart)
      ] in
      keeps_linked mid refl (inverse_same (standing old) (standing mid) (place_of old) (place_of mid) linked.inverse standings places)
      (kin_same (parent_in old) (parent_in mid) (place_of old) (place_of mid) linked.kin parents places)
    where
      by : (o : Option ℕ) → parent_in old s ≡ o → IsSome o → place_of old s ≡ None → ⊥
      by None is live none = let clash : ⊥ = cc in clash
      by (Some p) is live none = not_some_from_none (place_of old s) none (linked.kin.placed s p is)

      no_next : place_of old s ≡ None → parent_in old s ≡ None → (o : Option ℕ) → standing old (Next s) ≡ o → o ≡ None
      no_next place parent None e = refl
      no_next place parent (Some c) e =
          let its = linked.kin.next c s (linked.inverse.there (Next s) c e) in
          absurd (not_some_from_none (parent_in old c) (sym its.1 ∙ parent) its.0)

  -- it was at x
  module _ (x : Anchor) (at : place_by l.pool.parent l.before ≡ Some x) where
    s_at : place_of old s ≡ Some x
    s_at = ap place_in found ∙ at

    was : standing old x ≡ Some s
    was = linked.inverse.back x s s_at

    apart : Next s ≢ x
    apart is = let lt = (linked.kin.next s s (s_at ∙ ap Some (sym is))).2 in omega (arith, lt)

    not_first : x ≢ First s
    not_first is = not_own_parent (linked.kin.first s s (s_at ∙ ap Some is))

    other_holder : holder x ≢ s
    other_holder is = elim (held_by x s is) [ inl first ↦ not_first first | inr next ↦ apart (sym next) ]

    pub holder_stays : IsSome (get mid (holder x))
    holder_stays = ap is_some (away (holder x) other_holder) ∙ holder_live old x s was

    -- the next is there now
    module _ (closed new : LinkedMap) (put : IsStood mid closed x l.next) (moved : IsMoved closed new l.next x) where
      bare_same : bare new ≡ bare mid
      bare_same = moved.pools ∙ put.pools

      now : standing new x ≡ l.next
      now = moved.standing x ∙ put.here holder_stays

      places_away : (c : ℕ) → c ≢ s → l.next ≢ Some c → place_of new c ≡ place_of old c
      places_away c not_s not_next = moved.others c not_next ∙ put.places c ∙ ap place_in (away c not_s)

      next_moved : (c : ℕ) → l.next ≡ Some c → place_of new c ≡ Some x
      next_moved c is =
          let not_s : c ≢ s = λ same. not_next (is ∙ ap Some same) in
          let follows : place_of old c ≡ Some (Next s) = linked.inverse.there (Next s) c (ap next_of found ∙ is) in
          let live : IsSome (get old c) = placed_live (get old c) (Next s) follows in
          moved.moved c is (live_after mid closed put.pools c (ap is_some (away c not_s) ∙ live))
          (λ p first. ap (λ (ps : LivePools). parent_of (live_at ps c)) put.pools ∙ ap parent_of (change.1 c not_s)
          ∙ sym (linked.kin.next c s follows).1 ∙ linked.kin.first s p (s_at ∙ ap Some first))

      none_there : place_of new s ≡ None
      none_there = moved.others s not_next ∙ put.places s ∙ ap place_in at_s

      free : standing new (Next s) ≡ None
      free = moved.standing (Next s) ∙ put.others (Next s) apart ∙ ap next_of at_s

      standing_away : (y : Anchor) → y ≢ x → y ≢ Next s → standing new y ≡ standing old y
      standing_away y not_x not_n = moved.standing y ∙ put.others y not_x ∙ same_standing y not_n

      pub linked-remove : IsLinked new
      linked-remove =
          keeps_linked new bare_same
          (inverse_without (standing old) (standing new) (place_of old) (place_of new) linked.inverse x s l.next apart standing_away
          places_away was (ap next_of found) now free none_there next_moved)
          (kin_without (standing old) (standing new) (place_of old) (place_of new) linked.inverse x s l.next apart standing_away
          places_away was (ap next_of found) now free none_there next_moved (parent_in old) (parent_in new) linked.kin
          (ap (λ (ps : LivePools). parent_of (live_at ps s)) bare_same ∙ ap parent_of change.0)
          (λ c other. ap (λ (ps : LivePools). parent_of (live_at ps c)) bare_same ∙ ap parent_of (change.1 c other)))

-- the pool s is p's first child, and the newest pool
module _ (old led mid : LinkedMap) (linked : IsLinked old) (s p : ℕ) (l : Linked Entry) (live : IsSome (get old p))
    (fresh : (c : ℕ) → IsSome (live_at (bare old) c) → c < s) (small : s < 18446744073709551616)
    (child : l ≡ record {
      pool = record { parent = Some p; strings = [] };
      first = None;
      next = first_of (get old p);
      before = None;
    })
    (lead : IsLed old led p (Some s)) (put_in : Updates led mid s (Some l)) (unique : IsRising mid) (new : LinkedMap)
    (moved : IsMoved mid new (first_of (get old p)) (Next s)) where
  abbrev z : Option ℕ
  z = first_of (get old p)

  abbrev lone : Entry
  lone = record { parent = Some p; strings = [] }

  put : IsStood old led (First p) (Some s)
  put = led_stands old led p (Some s) lead

  here_s : get mid s ≡ Some l
  here_s = put_in.here

  away_s : (c : ℕ) → c ≢ s → get mid c ≡ get led c
  away_s = put_in.away

  live_old : (c : ℕ) → IsSome (get old c) → c < s
  live_old c h = fresh c (is_some-bare old c ∙ h)

  no_s : get old s ≡ None
  no_s = none_from_not_some (get old s) (λ h. let lt = live_old s h in omega (arith, lt))

  no_s_led : get led s ≡ None
  no_s_led = none_from_test (get led s) (live_same old led put.pools s ∙ ap is_some no_s)

  added : Changes (bare old) (bare new) s (Some lone)
  added =
      transport (λ i. Changes (put.pools i) (sym moved.pools i) s (Some (child i).pool)) (changes-bare led mid s (Some l) put_in)

  same_before : (y : Anchor) → y ≢ Next s → standing mid y ≡ standing led y
  same_before y apart = elim (cases_eq (holder y) s) [
    | inl is ↦ elim (held_by y s is) [
      | inl first ↦
          ap (standing mid) first ∙ ap first_of here_s ∙ ap (λ (e : Linked Entry). e.first) child
          ∙ sym (unheld led y (ap (get led) is ∙ no_s_led))
      | inr next ↦ absurd (apart next)
    ]
    | inr other ↦ same_holder led mid y (away_s (holder y) other)
  ]

  not_z : z ≢ Some s
  not_z e = none-some (First p) (sym (ap place_in no_s) ∙ linked.inverse.there (First p) s e)

  next_apart : Next s ≢ First p
  next_apart e = first_or_next p s (sym e)

  now_s : standing new (First p) ≡ Some s
  now_s = moved.standing (First p) ∙ same_before (First p) (first_or_next p s) ∙ put.here live

  next_s : standing new (Next s) ≡ z
  next_s = moved.standing (Next s) ∙ ap next_of here_s ∙ ap (λ (e : Linked Entry). e.next) child

  place_s : place_of new s ≡ Some (First p)
  place_s = moved.others s not_z ∙ ap place_in here_s ∙ ap (λ (e : Linked Entry). place_by e.pool.parent e.before) child

  z_moved : (c : ℕ) → z ≡ Some c → place_of new c ≡ Some (Next s)
  z_moved c is =
      let was : IsSome (get old c) = placed_live (get old c) (First p) (linked.inverse.there (First p) c is) in
      let other : c ≢ s = λ same. not_z (is ∙ ap Some same) in
      moved.moved c is (ap is_some (away_s c other) ∙ live_after old led put.pools c was)
      (λ q first. absurd (first_or_next q s (sym first)))

  others_stand : (y : Anchor) → y ≢ First p → y ≢ Next s → standing new y ≡ standing old y
  others_stand y not_x not_n = moved.standing y ∙ same_before y not_n ∙ put.others y not_x

  others_placed : (c : ℕ) → c ≢ s → z ≢ Some c → place_of new c ≡ place_of old c
  others_placed c not_s not_c = moved.others c not_c ∙ ap place_in (away_s c not_s) ∙ put.places c

  parents_kept : (c : ℕ) → c ≢ s → parent_in new c ≡ parent_in old c
  parents_kept c apart = ap parent_of (added.1 c apart)

  stays_live : (c : ℕ) → IsSome (live_at (bare old) c) → IsSome (live_at (bare new) c)
  stays_live c h = ap is_some (added.1 c (λ is. let lt = fresh c h in omega (arith, is, lt))) ∙ h

  pub linked-add : IsLinked new
  linked-add = record {
    inverse =
        inverse_with (standing old) (standing new) (place_of old) (place_of new) linked.inverse (First p) s z next_apart others_stand
        others_placed (ap place_in no_s) (ap next_of no_s) refl now_s next_s place_s z_moved;
    kin =
        kin_with (standing old) (standing new) (place_of old) (place_of new) linked.inverse (First p) s z next_apart others_stand
        others_placed (ap place_in no_s) (ap next_of no_s) refl now_s next_s place_s z_moved (parent_in old) (parent_in new) linked.kin p
        refl (ap parent_of added.0) parents_kept (λ c q e. fresh c (live_child (live_at (bare old) c) q e));
    older = λ q c e. elim (cases_eq c s) [
      | inl is ↦
          let same : q ≡ p = same_Some q p (sym e ∙ ap (parent_in new) is ∙ ap parent_of added.0) in
          let lt : p < s = live_old p live in
          let parent = stays_live p (is_some-bare old p ∙ live) in
          (subst (λ (k : ℕ). IsSome (live_at (bare new) k)) (sym same) parent, omega (arith, same, is, lt))
      | inr apart ↦
          let was = linked.older q c (sym (parents_kept c apart) ∙ e) in
          (stays_live q was.0, was.1)
    ];
    small = λ c h. elim (cases_eq c s) [
      | inl is ↦ omega (arith, is, small)
      | inr apart ↦ linked.small c (subst IsSome (added.1 c apart) h)
    ];
    unique = subst IsUnique (sym moved.pools) (unique-bare mid unique);
  }
