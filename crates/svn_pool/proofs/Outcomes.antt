-- What a clear and a destroy leave, and when a call is refused.
use Rattle.std.proofs.Common.{◌≡◌, ◌≢◌, ℕ, zero, suc, ◌+◌, ◌<◌, ◌≤◌, Bool, true, false, cond, nat_le, nat_eq, [], Option, None, Some}
use Rattle.std.proofs.Common.{IsSome, is_some, refl, sym, ap, subst, ◌∙◌, inl, inr, arith}
use Rattle.std.proofs.lemmas.Bool.{cases_eq, le-leb, eq-eqb, ne_eqb}
use Rattle.std.proofs.lemmas.Bool.Decides.{leb_tells}
use Rattle.std.specs.Option.{IsSomeAnd}
use Rattle.svn_lists.proofs.Options.{none_from_not_some, not_some_from_none, some_value}
use Rattle.svn_pool.specs.Ancestry.{IsAbove, IsBeneath, IsCleared, IsDestroyed, KeepsRest}
use Rattle.svn_pool.specs.Linked.{Changes, IsAlone, IsLinked, IsPruned, IsTree, LinkedMap, LivePools, bare, blocks_held}
use Rattle.svn_pool.specs.Linked.{fixed_held, live_at, parent_in}
use Rattle.svn_pool.specs.Pools.{Entry, Pools, pool_at, parent_of, fixed_of}
use Rattle.svn_pool.specs.Refusals.{fault_if_live, create_fault, destroy_fault}
use Rattle.svn_pool.specs.declared.fault.PoolFault.{PoolFault}
use Rattle.svn_pool.specs.declared.fault.PoolFault.TheVariants.{Gone, IsRoot, Full}
use Rattle.svn_pool.specs.Views.{seen}
use Rattle.svn_pool.proofs.Alone.{gone_elsewhere}
use Rattle.svn_pool.proofs.Bare.{live-bare, pool_in}
use Rattle.svn_pool.proofs.Views.{fixed_are, get-contents, pool_is, sum-contents}

pub fault_if_gone : (o : Option Entry) (f : Entry → Option PoolFault) → o ≡ None → fault_if_live o f ≡ Some Gone
fault_if_gone o f e = ap (λ (x : Option Entry). fault_if_live x f) e

pub fault_if_some : (o : Option Entry) (f : Option PoolFault) → IsSome o → fault_if_live o (λ _. f) ≡ f
fault_if_some None f h = let no : ⊥ = cc in absurd no
fault_if_some (Some e) f h = refl

pub create_full : (t : Pools) (p : ℕ) → IsSome (pool_at t p) → 18446744073709551616 ≤ t.next → create_fault t p ≡ Some Full
create_full t p live last =
    fault_if_some (pool_at t p) (cond (nat_le 18446744073709551616 t.next) (Some Full) None) live
    ∙ ap (λ (b : Bool). cond b (Some Full) None) (le-leb 18446744073709551616 t.next last)

pub create_left : (t : Pools) (p : ℕ) → t.next < 18446744073709551616 → create_fault t p ≡ fault_if_live (pool_at t p) (λ _. None)
create_left t p left =
    let more : nat_le 18446744073709551616 t.next ≡ false =
    elim (leb_tells 18446744073709551616 t.next) [ inl h ↦ absurd (let le = h.1 in omega (arith, le, left)) | inr h ↦ h.0 ] in
    ap (λ (b : Bool). fault_if_live (pool_at t p) (λ _. cond b (Some Full) None)) more

pub destroy_root : (t : Pools) (s : ℕ) → IsSome (pool_at t s) → s ≡ t.root → destroy_fault t s ≡ Some IsRoot
destroy_root t s live is =
    fault_if_some (pool_at t s) (cond (nat_eq s t.root) (Some IsRoot) None) live
    ∙ ap (λ (b : Bool). cond b (Some IsRoot) None) (eq-eqb s t.root is)

pub destroy_may : (t : Pools) (s : ℕ) → IsSome (pool_at t s) → s ≢ t.root → destroy_fault t s ≡ None
destroy_may t s live apart =
    fault_if_some (pool_at t s) (cond (nat_eq s t.root) (Some IsRoot) None) live
    ∙ ap (λ (b : Bool). cond b (Some IsRoot) None) (ne_eqb s t.root apart)

-- the steps up depend on the parents alone
pub above_same : (f g : ℕ → Option Entry) → ((q : ℕ) → parent_of (f q) ≡ parent_of (g q)) → (s n q : ℕ) → IsAbove f s n q → IsAbove g s n q
above_same f g same s zero q above = sym (same q) ∙ above
above_same f g same s (suc n) q above = (above.0, sym (same q) ∙ above.1, above_same f g same s n above.0 above.2)

pub beneath_same : (f g : ℕ → Option Entry) → ((q : ℕ) → parent_of (f q) ≡ parent_of (g q)) → (s q : ℕ) → IsBeneath f s q → IsBeneath g s q
beneath_same f g same s q b = (b.0, above_same f g same s b.0 q b.1)

module _ (pools : LinkedMap) (linked : IsLinked pools) where
  above_older : (s n q : ℕ) → IsAbove (live_at (bare pools)) s n q → s < q
  above_older s zero q above = (linked.older s q above).1
  above_older s (suc n) q above =
      let first = above_older s n above.0 above.2 in let then = (linked.older above.0 q above.1).1 in omega (arith, first, then)

  pub not_beneath_itself : (s : ℕ) → IsBeneath (live_at (bare pools)) s s → ⊥
  not_beneath_itself s b = let lt = above_older s b.0 s b.1 in omega (arith, lt)

pub parentless : (f : ℕ → Option Entry) (s n q : ℕ) → parent_of (f q) ≡ None → IsAbove f s n q → ⊥
parentless f s zero q none above = let no : None ≡ Some s = sym none ∙ above in cc
parentless f s (suc n) q none above = let no : None ≡ Some above.0 = sym none ∙ above.1 in cc

-- a live pool that has no parent
abbrev IsRooted : Option Entry → Type 0
IsRooted o = IsSomeAnd o (λ e. e.parent ≡ None)

pub live_root : (o : Option Entry) → IsRooted o → IsSome o
live_root None h = absurd h
live_root (Some e) h = refl

pub lone_root : (o : Option Entry) → IsRooted o → parent_of o ≡ None
lone_root None h = refl
lone_root (Some e) h = h

-- a tree whose fields mean `old`, and after a clear or a destroy of s its pools, and how many blocks are spare then
module _ {root last used spare : ℕ} {pools end : LinkedMap} {old : Pools} (tree : IsTree pools root last used)
    (view : seen root last (bare pools) spare ≡ old) (late : IsLinked end) (left : ℕ)
    (fixed : left + fixed_held (bare end) ≡ spare + fixed_held (bare pools)) (s : ℕ) where
  abbrev new : Pools
  new = seen root last (bare end) left

  at_old : (q : ℕ) → pool_at old q ≡ live_at (bare pools) q
  at_old = pool_is tree view

  at_new : (q : ℕ) → pool_at new q ≡ live_at (bare end) q
  at_new = get-contents (bare end) late.unique

  parents_old : (q : ℕ) → parent_of (pool_at old q) ≡ parent_of (live_at (bare pools) q)
  parents_old q = ap parent_of (at_old q)

  rest_kept : ((q : ℕ) → q ≢ s → (IsBeneath (pool_at old) s q → ⊥) → live_at (bare end) q ≡ live_at (bare pools) q) → KeepsRest old new s
  rest_kept others = record {
    others = λ q apart not. at_new q ∙ others q apart not ∙ sym (at_old q);
    root = ap (λ (t : Pools). t.root) view;
    next = ap (λ (t : Pools). t.next) view;
    blocks =
        ap (λ (n : ℕ). left + n) (sum-contents (bare end) late.unique fixed_of) ∙ fixed
        ∙ (λ i. (view i).spare + sym (fixed_are tree view) i);
  }

  -- the root alone is left
  module _ (is_root : s ≡ root) (alone : IsAlone end s) where
    all_beneath : (n q : ℕ) → q < n → IsSome (live_at (bare pools) q) → q ≢ s → IsBeneath (live_at (bare pools)) s q
    all_beneath zero q lt live apart = absurd (omega (arith, lt))
    all_beneath (suc n) q lt live apart =
        let p = some_value (parent_in pools q) (tree.others q live (λ is. apart (is ∙ sym is_root))) in
        let older = tree.linked.older p.0 q p.1 in
        elim (cases_eq p.0 s) [
          | inl is ↦ (zero, p.1 ∙ ap Some is)
          | inr other ↦
              let above = all_beneath n p.0 (let first = older.1 in omega (arith, first, lt)) older.0 other in
              (suc above.0, (p.0, p.1, above.1))
        ]

    pub cleared_root : IsCleared old new s
    cleared_root = record {
      emptied =
          at_new s ∙ live-bare end s ∙ ap pool_in alone.here
          ∙ ap (λ (o : Option ℕ). Some (record { parent = o; strings = [] }))
          (sym (ap parent_of (at_old s ∙ ap (live_at (bare pools)) is_root) ∙ lone_root (live_at (bare pools) root) tree.rooted));
      beneath = λ q b. at_new q ∙ gone_elsewhere end s alone q
          (λ is. not_beneath_itself pools tree.linked s
          (subst (IsBeneath (live_at (bare pools)) s) is (beneath_same (pool_at old) (live_at (bare pools)) parents_old s q b)));
      rest = rest_kept (λ q apart not. gone_elsewhere end s alone q apart ∙ sym (none_from_not_some (live_at (bare pools) q)
          (λ live. not (beneath_same (live_at (bare pools)) (pool_at old) (λ k. sym (parents_old k)) s q
          (all_beneath (suc q) q (omega arith) live apart)))));
    }

  module _ {mid : LinkedMap} (linked : IsLinked mid)
      (put : Changes (bare pools) (bare mid) s (Some (record { parent = parent_of (live_at (bare pools) s); strings = [] })))
      (pruned : IsPruned (bare mid) (bare end) s) where
    parents : (q : ℕ) → parent_of (pool_at old q) ≡ parent_of (live_at (bare mid) q)
    parents q = ap parent_of (at_old q) ∙ elim (cases_eq q s) [
      | inl is ↦
          ap (λ (k : ℕ). parent_of (live_at (bare pools) k)) is
          ∙ sym (ap (λ (k : ℕ). parent_of (live_at (bare mid) k)) is ∙ ap parent_of put.0)
      | inr apart ↦ sym (ap parent_of (put.1 q apart))
    ]

    pub cleared : IsCleared old new s
    cleared = record {
      emptied =
          at_new s ∙ pruned.others s (not_beneath_itself mid linked s) ∙ put.0
          ∙ ap (λ (o : Option Entry). Some (record { parent = parent_of o; strings = [] })) (sym (at_old s));
      beneath = λ q b. at_new q ∙ pruned.beneath q (beneath_same (pool_at old) (live_at (bare mid)) parents s q b);
      rest = rest_kept (λ q apart not. pruned.others q
          (λ b. not (beneath_same (live_at (bare mid)) (pool_at old) (λ k. sym (parents k)) s q b)) ∙ put.1 q apart);
    }

  module _ {mid : LivePools} (pruned : IsPruned (bare pools) mid s) (gone : Changes mid (bare end) s None) where
    pub destroyed : IsDestroyed old new s
    destroyed = record {
      gone = at_new s ∙ gone.0;
      beneath = λ q b. at_new q ∙ elim (cases_eq q s) [
        | inl is ↦ ap (live_at (bare end)) is ∙ gone.0
        | inr apart ↦
            gone.1 q apart ∙ pruned.beneath q (beneath_same (pool_at old) (live_at (bare pools)) parents_old s q b)
      ];
      rest = rest_kept (λ q apart not. gone.1 q apart
          ∙ pruned.others q (λ b. not (beneath_same (live_at (bare pools)) (pool_at old) (λ k. sym (parents_old k)) s q b)));
    }

-- the tree's invariant holds again
module _ {root last used after : ℕ} {pools end : LinkedMap} (tree : IsTree pools root last used) (linked : IsLinked end)
    (counted : after ≡ blocks_held (bare end)) (s : ℕ) where
  -- after everything below a pool is gone
  module _ (pruned : IsPruned (bare pools) (bare end) s) where
    still_live : (q : ℕ) → IsSome (live_at (bare end) q) → IsSome (live_at (bare pools) q)
    still_live q h =
        elim (is_some (live_at (bare pools) q)) as
        (λ (b : Bool). is_some (live_at (bare pools) q) ≡ b → is_some (live_at (bare pools) q) ≡ true) [
          | true ↦ λ is. is
          | false ↦
              λ is. absurd (not_some_from_none (live_at (bare end) q)
              (pruned.fewer q
              (none_from_not_some (live_at (bare pools) q) (λ live. let clash : false ≡ true = sym is ∙ live in let no : ⊥ = cc in no)))
              h)
        ] refl

    pub tree-pruned : IsTree end root last after
    tree-pruned = record {
      linked = linked;
      rooted = subst IsRooted
          (sym (pruned.others root
          (λ b. parentless (live_at (bare pools)) s b.0 root (lone_root (live_at (bare pools) root) tree.rooted) b.1))) tree.rooted;
      others = λ q h apart.
          let kept : live_at (bare end) q ≡ live_at (bare pools) q =
          pruned.others q (λ b. not_some_from_none (live_at (bare end) q) (pruned.beneath q b) h) in
          ap (λ (o : Option Entry). is_some (parent_of o)) kept ∙ tree.others q (still_live q h) apart;
      below = λ q h. tree.below q (still_live q h);
      counted = counted;
    }

  -- after one pool was emptied
  pub tree-emptied : IsSome (live_at (bare pools) s)
      → Changes (bare pools) (bare end) s (Some (record { parent = parent_of (live_at (bare pools) s); strings = [] }))
      → IsTree end root last after
  tree-emptied was put = record {
    linked = linked;
    rooted = elim (cases_eq root s) [
      | inl is ↦ subst IsRooted (sym (ap (live_at (bare end)) is ∙ put.0))
          (ap (λ (k : ℕ). parent_of (live_at (bare pools) k)) (sym is) ∙ lone_root (live_at (bare pools) root) tree.rooted)
      | inr apart ↦ subst IsRooted (sym (put.1 root apart)) tree.rooted
    ];
    others = λ q h apart. elim (cases_eq q s) [
      | inl is ↦
          ap (λ (k : ℕ). is_some (parent_in end k)) is ∙ ap (λ (o : Option Entry). is_some (parent_of o)) put.0
          ∙ ap (λ (k : ℕ). is_some (parent_in pools k)) (sym is)
          ∙ tree.others q (ap (λ (k : ℕ). is_some (live_at (bare pools) k)) is ∙ was) apart
      | inr other ↦
          ap (λ (o : Option Entry). is_some (parent_of o)) (put.1 q other) ∙ tree.others q (subst IsSome (put.1 q other) h) apart
    ];
    below = λ q h. elim (cases_eq q s) [
      | inl is ↦ tree.below q (ap (λ (k : ℕ). is_some (live_at (bare pools) k)) is ∙ was)
      | inr apart ↦ tree.below q (subst IsSome (put.1 q apart) h)
    ];
    counted = counted;
  }

  -- after a pool that is not the root is gone
  pub tree-removed : s ≢ root → Changes (bare pools) (bare end) s None → IsTree end root last after
  tree-removed apart gone = record {
    linked = linked;
    rooted = subst IsRooted (sym (gone.1 root (λ e. apart (sym e)))) tree.rooted;
    others = λ q h not_root. elim (cases_eq q s) [
      | inl is ↦ absurd (not_some_from_none (live_at (bare end) q) (ap (live_at (bare end)) is ∙ gone.0) h)
      | inr other ↦
          ap (λ (o : Option Entry). is_some (parent_of o)) (gone.1 q other) ∙ tree.others q (subst IsSome (gone.1 q other) h) not_root
    ];
    below = λ q h. elim (cases_eq q s) [
      | inl is ↦ absurd (not_some_from_none (live_at (bare end) q) (ap (live_at (bare end)) is ∙ gone.0) h)
      | inr other ↦ tree.below q (subst IsSome (gone.1 q other) h)
    ];
    counted = counted;
  }
