-- An edit that no call was given to.
use Rattle.std.proofs.Common.{◌≡◌, ◌≢◌, ℕ, ◌+◌, cond, List, [], sym, ◌∙◌, ap}
use Rattle.std.proofs.lemmas.Cmp.{nat_cmp_total}
use Rattle.std.proofs.lemmas.Option.{none-some}
use Rattle.std.specs.Prelude.{Some, None, is_some}
use Rattle.std.specs.Ordering.{nat_cmp}
use Rattle.svn_serials.specs.Serials.{get}
use Rattle.std.specs.FinMap as map
use Rattle.svn_pool.specs.Pools.{Entry, Pools, pool_at, root_alone}
use Rattle.svn_pool.proofs.Views.{inserted_here, inserted_away}
use Rattle.svn_edit.specs.declared.baton.Baton.{Baton}
use Rattle.svn_edit.specs.Applying.{BatonMap, HoldsBatons}

pub begun_batons : (pools : Pools) (batons : BatonMap) → pools ≡ root_alone 0 → batons ≡ []
    → HoldsBatons pools (get batons) []
begun_batons pools batons is empty = record {
  opened = λ t. ap is_some (nothing t);
  each = λ t b e. absurd (none-some b (sym (nothing t) ∙ e));
  apart = λ t u b d e f same. absurd (none-some b (sym (nothing t) ∙ e));
  root = (λ i. pool_at (is i) (is i).root) ∙ inserted_here map.empty 0 (record { parent = None; strings = [] });
  only = λ s e there apart. absurd (alone s e there apart);
  beneath = λ s e there apart. absurd (alone s e there apart);
  count =
      ap (λ (p : Pools). map.len p.live) is ∙ map.len-insert nat_cmp_total map.empty 0 (record { parent = None; strings = [] })
      ∙ (λ i. cond (is_some (map.get-empty {X = Entry} nat_cmp 0 i)) (map.len-empty nat_cmp Entry i) (map.len-empty nat_cmp Entry i + 1));
}
  where
    alone : (s : ℕ) (e : Entry) → pool_at pools s ≡ Some e → s ≢ pools.root → ⊥
    alone s e there apart =
        none-some e (sym (ap (λ (p : Pools). pool_at p s) is ∙ inserted_away map.empty 0 (record { parent = None; strings = [] }) s
        (λ z. apart (z ∙ sym (ap (λ (p : Pools). p.root) is))) ∙ map.get-empty nat_cmp s) ∙ there)

    nothing : (t : ℕ) → get batons t ≡ None
    nothing t = ap (λ (l : List (ℕ × Baton)). get l t) empty
