-- Serials whose pools are gone, and pools without children.
use Rattle.std.proofs.Common.{◌≡◌, ◌≢◌, ℕ, zero, suc, ◌<◌, [], None, Some, IsSome, sym, ap, subst, ◌∙◌, inl, inr, arith}
use Rattle.std.proofs.lemmas.Bool.{cases_eq}
use Rattle.std.proofs.lemmas.Cmp.{nat_cmp_total}
use Rattle.std.specs.FinMap as fin
use Rattle.svn_lists.proofs.Options.{not_some_from_none}
use Rattle.svn_pool.specs.Ancestry.{IsAbove, IsBeneath, IsOld}
use Rattle.svn_pool.specs.Laws.{LeafGoesAlone, OldIsGone, OldStaysOld}
use Rattle.svn_pool.specs.Pools.{Pools, pool_at, parent_of, strings_of_pool}
use Rattle.svn_pool.proofs.Outcomes.{fault_if_gone, parentless}
use Rattle.svn_pool.proofs.Views.{inserted_away, removed_here, removed_away}

pub old_is_gone : OldIsGone
old_is_gone t s old = record {
  create = fault_if_gone (pool_at t s) _ old.1;
  push = λ n. fault_if_gone (pool_at t s) _ old.1;
  clear = fault_if_gone (pool_at t s) _ old.1;
  destroy = fault_if_gone (pool_at t s) _ old.1;
  get = ap strings_of_pool old.1;
}

module _ (t : Pools) (s : ℕ) (old : IsOld t s) where
  abbrev none : pool_at t s ≡ None
  none = old.1

  not_live : (r : ℕ) → IsSome (pool_at t r) → s ≢ r
  not_live r live is = not_some_from_none (pool_at t r) (ap (pool_at t) (sym is) ∙ none) live

  not_beneath : (r : ℕ) → IsBeneath (pool_at t) r s → ⊥
  not_beneath r b = parentless (pool_at t) r b.0 s (ap parent_of none) b.1

pub old_stays_old : OldStaysOld
old_stays_old t s old = record {
  create =
      λ p. (
        omega arith,
        inserted_away t.live t.next (record { parent = Some p; strings = [] }) s (λ is. let lt = old.0 in omega (arith, is, lt)) ∙ old.1,
      );
  push = λ r bs live. (old.0, inserted_away t.live r _ s (not_live t s old r live) ∙ old.1);
  clear =
      λ r u live done. (
        subst (λ (n : ℕ). s < n) (sym done.rest.next) old.0,
        done.rest.others s (not_live t s old r live) (not_beneath t s old r) ∙ old.1,
      );
  destroy =
      λ r u live done. (
        subst (λ (n : ℕ). s < n) (sym done.rest.next) old.0,
        done.rest.others s (not_live t s old r live) (not_beneath t s old r) ∙ old.1,
      );
}

-- where s has no child, nothing is below it
none_beneath : (t : Pools) (s : ℕ) → ((c : ℕ) → parent_of (pool_at t c) ≢ Some s) → (n q : ℕ) → IsAbove (pool_at t) s n q → ⊥
none_beneath t s leaf zero q above = leaf q above
none_beneath t s leaf (suc n) q above = none_beneath t s leaf n above.0 above.2

pub leaf_goes_alone : LeafGoesAlone
leaf_goes_alone t u s leaf done =
    fin.same_map nat_cmp_total fin.nat_cmp-IsAntisymmetric u.live (fin.remove t.live s) (λ q. elim (cases_eq q s) [
      | inl is ↦ ap (pool_at u) is ∙ done.gone ∙ sym (ap (fin.get (fin.remove t.live s)) is ∙ removed_here t.live s)
      | inr apart ↦ done.rest.others q apart (λ b. none_beneath t s leaf b.0 q b.1) ∙ sym (removed_away t.live s q apart)
    ])
