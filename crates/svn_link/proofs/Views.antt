-- What holds of each of a list of views, after one of them changed or a new one came.
use Rattle.std.proofs.Common.{◌≡◌, ◌≢◌, ◌⊎◌, ℕ, zero, suc, List, [], ◌∷◌, ◌++◌, length, set, sym, refl, ap, subst}
use Rattle.std.proofs.Common.{inl, inr, ⊎_elim}
use mathlib.Core.Option.{some, some-ne-none, some-injective}
use lib.ListN.{get_elem?}
use Rattle.atomic_table.proofs.Lists.{at_set}

module _ {V : Type 0} where
  -- what holds of each view, after the one of this pass changed
  pub each_set : (F : ℕ → V → Type 0) (views : List V) (pass : ℕ) (v : V) → F pass v
      → ((j : ℕ) (w : V) → j ≢ pass → get_elem? views j ≡ some w → F j w)
      → (j : ℕ) (w : V) → get_elem? (set views pass v) j ≡ some w → F j w
  each_set F views pass v mine others j w e =
      ⊎_elim
      (λ (t : (j ≡ pass) × (v ≡ w)). subst (λ (y : ℕ × V). F y.0 y.1) (λ i. (sym t.0 i, t.1 i)) mine)
      (λ (t : (j ≢ pass) × (get_elem? views j ≡ some w)). others j w t.0 t.1)
      (at_set views pass j v w e)

  -- a view is one of those before, or the new one, whose number is how many there were
  pub at_end : (views : List V) (v w : V) (j : ℕ) → get_elem? (views ++ v ∷ []) j ≡ some w
      → (get_elem? views j ≡ some w) ⊎ ((j ≡ length views) × (v ≡ w))
  at_end [] v w zero e = inr (refl, some-injective v w e)
  at_end [] v w (suc j) e = absurd (some-ne-none w (sym e))
  at_end (x ∷ xs) v w zero e = inl e
  at_end (x ∷ xs) v w (suc j) e = ⊎_elim (λ t. inl t) (λ t. inr (ap suc t.0, t.1)) (at_end xs v w j e)

  -- a view at another number was there before
  pub was_there : (views : List V) (pass other : ℕ) (v w : V) → ¬ (other ≡ pass) → get_elem? (set views pass v) other ≡ some w
      → get_elem? views other ≡ some w
  was_there views pass other v w apart e =
      ⊎_elim (λ (t : (other ≡ pass) × (v ≡ w)). absurd (apart t.0)) (λ (t : (other ≢ pass) × (get_elem? views other ≡ some w)). t.1)
      (at_set views pass other v w e)
