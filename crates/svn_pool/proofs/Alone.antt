-- A pool that is put into an empty map is there alone, and the tree of the root alone keeps what a tree keeps.
use Rattle.std.proofs.Common.{◌≡◌, ◌≢◌, ℕ, zero, suc, ◌+◌, ◌<◌, ◌≤◌, nat_eq, [], ◌∷◌, Option, None, Some, IsSome, refl, sym, ap, subst}
use Rattle.std.proofs.Common.{◌∙◌, inl}
use Rattle.std.proofs.Common.{inr, arith}
use Rattle.std.proofs.lemmas.Bool.{cases_eq, cond-true, cond-false, eq-eqb, ne_eqb}
use Rattle.std.proofs.lemmas.Map.Keys.{IsDistinct-cons}
use Rattle.std.proofs.lemmas.Option.{none-some}
use Rattle.svn_lists.proofs.Options.{not_some_from_none}
use Rattle.svn_lists.proofs.Sorted.{distinct_nil}
use Rattle.svn_serials.specs.Serials.{get}
use Rattle.std.specs.Option.{IsSomeAnd}
use Rattle.svn_pool.specs.Linked.{Changes, IsAlone, IsLinked, IsTree, IsUnique, LinkedMap, bare, blocks_held, first_of, fixed_held}
use Rattle.svn_pool.specs.Linked.{live_at, next_of}
use Rattle.svn_pool.specs.Linked.{parent_in, place_in, place_of, standing}
use Rattle.svn_pool.specs.Pools.{Entry, parent_of}
use Rattle.svn_pool.specs.declared.links.Linked.{Linked}
use Rattle.svn_pool.specs.declared.links.Anchor.{Anchor}
use Rattle.svn_pool.specs.declared.links.Anchor.TheVariants.{First, Next}
use Rattle.svn_pool.proofs.Bare.{is_some-bare, live-bare, pool_in}

abbrev pub lone : Entry
lone = record { parent = None; strings = [] }

abbrev pub rootlet : Linked Entry
rootlet = record { pool = lone; first = None; next = None; before = None }

module _ (new : LinkedMap) (first : ℕ) (is : new ≡ (first, rootlet) ∷ []) where
  pub is_alone : IsAlone new first
  is_alone = record {
    here = ap (λ (es : LinkedMap). get es first) is ∙ cond-true (nat_eq first first) (Some rootlet) None (eq-eqb first first refl);
    others = λ q apart. ap (λ (es : LinkedMap). get es q) is ∙ cond-false (nat_eq q first) (Some rootlet) None (ne_eqb q first apart);
    unique = subst (λ (es : LinkedMap). IsUnique (bare es)) (sym is) (IsDistinct-cons nat_eq first [] tt distinct_nil);
    blocks = ap (λ (es : LinkedMap). blocks_held (bare es)) is;
    fixed = ap (λ (es : LinkedMap). fixed_held (bare es)) is;
  }

  pub change : Changes [] (bare new) first (Some lone)
  change = (
    ap (λ (es : LinkedMap). live_at (bare es) first) is ∙ cond-true (nat_eq first first) (Some lone) None (eq-eqb first first refl),
    λ q apart. ap (λ (es : LinkedMap). live_at (bare es) q) is ∙ cond-false (nat_eq q first) (Some lone) None (ne_eqb q first apart),
  )

module _ (new : LinkedMap) (first : ℕ) (alone : IsAlone new first) where
  here : live_at (bare new) first ≡ Some lone
  here = live-bare new first ∙ ap pool_in alone.here

  pub gone_elsewhere : (c : ℕ) → c ≢ first → live_at (bare new) c ≡ None
  gone_elsewhere c apart = live-bare new c ∙ ap pool_in (alone.others c apart)

  no_links : (c : ℕ) → (first_of (get new c) ≡ None) × (next_of (get new c) ≡ None) × (place_of new c ≡ None)
  no_links c = elim (cases_eq c first) [
    | inl is ↦
        let at : get new c ≡ Some rootlet = ap (get new) is ∙ alone.here in
        (ap first_of at, ap next_of at, ap place_in at)
    | inr apart ↦ (ap first_of (alone.others c apart), ap next_of (alone.others c apart), ap place_in (alone.others c apart))
  ]

  none_stands : (x : Anchor) → standing new x ≡ None
  none_stands (First p) = (no_links p).0
  none_stands (Next q) = (no_links q).1

  live_is_first : (c : ℕ) → IsSome (live_at (bare new) c) → c ≡ first
  live_is_first c live = elim (cases_eq c first) [
    | inl is ↦ is
    | inr apart ↦ absurd (not_some_from_none (live_at (bare new) c) (gone_elsewhere c apart) live)
  ]

  no_parent : (c p : ℕ) → parent_in new c ≡ Some p → ⊥
  no_parent c p e = elim (cases_eq c first) [
    | inl is ↦ none-some p (sym (ap (parent_in new) is ∙ ap parent_of here) ∙ e)
    | inr apart ↦ none-some p (sym (ap parent_of (gone_elsewhere c apart)) ∙ e)
  ]

  pub linked_alone : first < 18446744073709551616 → IsLinked new
  linked_alone small = record {
    inverse = record {
      there = λ x c e. absurd (none-some c (sym (none_stands x) ∙ e));
      back = λ x c e. absurd (none-some x (sym (no_links c).2 ∙ e));
    };
    kin = record {
      placed = λ c p e. absurd (no_parent c p e);
      first = λ c p e. absurd (none-some (First p) (sym (no_links c).2 ∙ e));
      next = λ c q e. absurd (none-some (Next q) (sym (no_links c).2 ∙ e));
    };
    older = λ p c e. absurd (no_parent c p e);
    small = λ c live. subst (λ (k : ℕ). k < 18446744073709551616) (sym (live_is_first c live)) small;
    unique = alone.unique;
  }

  pub tree_alone : (last used : ℕ) → first < 18446744073709551616 → first ≤ last → used ≡ 0 → IsTree new first last used
  tree_alone last used small given unused = record {
    linked = linked_alone small;
    rooted = subst (λ (o : Option Entry). IsSomeAnd o (λ e. e.parent ≡ None)) (sym here) refl;
    others = λ c live apart. absurd (apart (live_is_first c live));
    below = λ c live. let same = live_is_first c live in omega (arith, same, given);
    counted = unused ∙ sym alone.blocks;
  }

-- the root is the oldest: each other live pool has a live parent that is older
module _ (pools : LinkedMap) (root last used : ℕ) (tree : IsTree pools root last used) where
  oldest_below : (n q : ℕ) → q < n → IsSome (live_at (bare pools) q) → root ≤ q
  oldest_below zero q less live = absurd (omega arith)
  oldest_below (suc n) q less live = elim (cases_eq q root) [
    | inl is ↦ omega arith
    | inr apart ↦
        let parent = some_value (parent_in pools q) (tree.others q live apart) in
        let older = tree.linked.older parent.0 q parent.1 in
        let above = oldest_below n parent.0 (omega (arith, older.1)) older.0 in
        omega (arith, older.1)
  ]
    where
      some_value : (o : Option ℕ) → IsSome o → (p : ℕ) × (o ≡ Some p)
      some_value None some = absurd (let no : ⊥ = cc in no)
      some_value (Some p) some = (p, refl)

  pub root_is_oldest : (q : ℕ) → IsSome (get pools q) → root ≤ q
  root_is_oldest q live = oldest_below (q + 1) q (omega arith) (is_some-bare pools q ∙ live)
