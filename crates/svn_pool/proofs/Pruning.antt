-- The removal of the pools below one, step by step.
use Rattle.std.proofs.Common.{◌≡◌, ◌≢◌, ◌⊎◌, ℕ, zero, suc, ◌+◌, ◌<◌, Option, None, Some, IsSome, refl, sym, ap, subst, ◌∙◌}
use Rattle.std.proofs.Common.{inl, inr, arith}
use Rattle.std.proofs.lemmas.Bool.{cases_eq}
use Rattle.std.proofs.lemmas.Option.{same_Some}
use Rattle.svn_lists.proofs.Options.{not_some_from_none, some_value}
use Rattle.svn_serials.specs.Serials.{get}
use Rattle.svn_pool.specs.Ancestry.{IsAbove, IsBeneath}
use Rattle.svn_pool.specs.Linked.{Changes, IsBeside, IsLinked, IsLeaf, IsPruned, LinkedMap, LivePools, bare, blocks_held}
use Rattle.svn_pool.specs.Linked.{first_of, fixed_held, live_at, parent_in, place_of, standing}
use Rattle.svn_pool.specs.Pools.{parent_of}
use Rattle.svn_pool.specs.Stores.{Store}
use Rattle.svn_pool.proofs.Kinship.{live_child}
use Rattle.svn_pool.proofs.Siblings.{no_child}
use Rattle.svn_pool.specs.declared.links.Anchor.TheVariants.{First}

-- at is live, and top or below it; what is gone by now was below top
pub record IsOnWay (old now : LivePools) (top at : ℕ) : Type 0 where
  pub either : (q : ℕ) → (live_at now q ≡ live_at old q) ⊎ ((live_at now q ≡ None) × IsBeneath (live_at old) top q)
  pub here : IsSome (live_at now at)
  pub place : (at ≡ top) ⊎ IsBeneath (live_at old) top at

-- what the loop keeps
pub record IsPruning (old now : LinkedMap) (before after : Store) (top at : ℕ) (child : Option ℕ) : Type 0 where
  pub way : IsOnWay (bare old) (bare now) top at
  pub first : child ≡ first_of (get now at)
  pub linked : IsLinked now
  pub counted : after.used ≡ blocks_held (bare now)
  pub fixed : after.spare + fixed_held (bare now) ≡ before.spare + fixed_held (bare old)

module _ (old : LivePools) (top : ℕ) where
  pub way_starts : IsSome (live_at old top) → IsOnWay old old top top
  way_starts live = record { either = λ q. inl refl; here = live; place = inl refl }

  module _ (now : LivePools) (at : ℕ) (way : IsOnWay old now top at) where
    -- a live pool is as it was
    unchanged : (c p : ℕ) → parent_of (live_at now c) ≡ Some p → parent_of (live_at old c) ≡ Some p
    unchanged c p e = elim (way.either c) [
      | inl same ↦ sym (ap parent_of same) ∙ e
      | inr gone ↦ absurd (let no : None ≡ Some p = sym (ap parent_of gone.0) ∙ e in let none : ⊥ = cc in none)
    ]

    pub way_down : (c : ℕ) → parent_of (live_at now c) ≡ Some at → IsOnWay old now top c
    way_down c e = record {
      either = way.either;
      here = live_child (live_at now c) at e;
      place = inr (elim way.place [
        | inl is ↦ (zero, unchanged c at e ∙ ap Some is)
        | inr beneath ↦ (suc beneath.0, (at, unchanged c at e, beneath.1))
      ]);
    }

    parent_above : (n : ℕ) → IsAbove (live_at old) top n at → parent_of (live_at old at) ≡ None → ⊥
    parent_above zero above none = let no : None ≡ Some top = sym none ∙ above in cc
    parent_above (suc n) above none = let no : None ≡ Some above.0 = sym none ∙ above.1 in cc

    -- all but top have a parent
    pub way_has_parent : at ≢ top → parent_of (live_at now at) ≡ None → ⊥
    way_has_parent apart none =
        let beneath : IsBeneath (live_at old) top at = elim way.place [ inl is ↦ absurd (apart is) | inr b ↦ b ] in
        elim (way.either at) [
          | inl same ↦ parent_above beneath.0 beneath.1 (sym (ap parent_of same) ∙ none)
          | inr gone ↦ not_some_from_none (live_at now at) gone.0 way.here
        ]

    up_to : (p : ℕ) → parent_of (live_at old at) ≡ Some p → (n : ℕ) → IsAbove (live_at old) top n at
        → (p ≡ top) ⊎ IsBeneath (live_at old) top p
    up_to p e zero above = inl (same_Some p top (sym e ∙ above))
    up_to p e (suc n) above = inr (n, subst (λ (k : ℕ). IsAbove (live_at old) top n k) (same_Some above.0 p (sym above.1 ∙ e)) above.2)

    -- another child of the same parent lies as deep
    aside : (c p : ℕ) → parent_of (live_at old c) ≡ Some p → parent_of (live_at old at) ≡ Some p → (n : ℕ)
        → IsAbove (live_at old) top n at → IsAbove (live_at old) top n c
    aside c p e is zero above = e ∙ sym is ∙ above
    aside c p e is (suc n) above = (above.0, e ∙ sym is ∙ above.1, above.2)

    -- at is removed, and the walk goes on beside it
    pub way_on : (new : LivePools) (b : ℕ) → ((p : ℕ) → parent_of (live_at now at) ≡ Some p → IsSome (live_at now p) × (p < at))
        → at ≢ top → Changes now new at None → IsBeside now at b → IsOnWay old new top b
    way_on new b older apart gone beside =
        let beneath : IsBeneath (live_at old) top at = elim way.place [ inl is ↦ absurd (apart is) | inr b ↦ b ] in
        let near = by beneath beside in
        record {
          either = λ q. elim (cases_eq q at) [
            | inl is ↦
                inr (ap (live_at new) is ∙ gone.0, subst (IsBeneath (live_at old) top) (sym is) beneath)
            | inr other ↦ elim (way.either q) [
              | inl same ↦ inl (gone.1 q other ∙ same)
              | inr was ↦ inr (gone.1 q other ∙ was.0, was.1)
            ]
          ];
          here = subst IsSome (sym (gone.1 b near.0)) near.1;
          place = near.2;
        }
      where
        by : IsBeneath (live_at old) top at → IsBeside now at b
            → (b ≢ at) × IsSome (live_at now b) × ((b ≡ top) ⊎ IsBeneath (live_at old) top b)
        by beneath (inl parent) =
            let above = older b parent in
            (λ is. let lt = above.1 in omega (arith, is, lt), above.0, up_to b (unchanged at b parent) beneath.0 beneath.1)
        by beneath (inr sibling) =
            let p = some_value (parent_of (live_at now at)) sibling.1 in
            let child = sibling.2 ∙ p.1 in (
              sibling.0,
              live_child (live_at now b) p.0 child,
              inr (beneath.0, aside b p.0 (unchanged b p.0 child) (unchanged at p.0 p.1) beneath.0 beneath.1),
            )

  module _ (now : LinkedMap) (linked : IsLinked now) (way : IsOnWay old (bare now) top top)
      (leaf : IsLeaf (bare now) top) where
    all_gone : (n q : ℕ) → IsAbove (live_at old) top n q → live_at (bare now) q ≡ None
    all_gone zero q above = elim (way.either q) [
      | inl same ↦ absurd (leaf q (ap parent_of same ∙ above))
      | inr gone ↦ gone.0
    ]
    all_gone (suc n) q above =
        let parent = all_gone n above.0 above.2 in
        elim (way.either q) [
          | inl same ↦ absurd (not_some_from_none (live_at (bare now) above.0) parent
              (linked.older above.0 q (ap parent_of same ∙ above.1)).0)
          | inr gone ↦ gone.0
        ]

    pub way_ends : IsPruned old (bare now) top
    way_ends = record {
      beneath = λ q b. all_gone b.0 q b.1;
      others = λ q not. elim (way.either q) [ inl same ↦ same | inr gone ↦ absurd (not gone.1) ];
      fewer = λ q none. elim (way.either q) [ inl same ↦ same ∙ none | inr gone ↦ gone.0 ];
      leaf = leaf;
    }

-- the first child of a pool has it as its parent
pub child_of : (pools : LinkedMap) → IsLinked pools → (s c : ℕ) → standing pools (First s) ≡ Some c → parent_in pools c ≡ Some s
child_of pools linked s c e = linked.kin.first c s (linked.inverse.there (First s) c e)

-- where there is no first child, there is none
pub leaf_from_none : (pools : LinkedMap) → IsLinked pools → (s : ℕ) → standing pools (First s) ≡ None → IsLeaf (bare pools) s
leaf_from_none pools linked s none c e =
    no_child (parent_in pools) (place_of pools) (standing pools) linked.inverse linked.kin
    (λ d p is. linked.small d (live_child (live_at (bare pools) d) p is)) s none c e
