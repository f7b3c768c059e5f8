-- What a map keeps of its fields, after each change of them.
use Rattle.std.proofs.Common.{nat_eq, ◌≡◌, ◌≢◌, ℕ, ◌+◌, ◌-◌, ◌<◌, ◌≤◌, List, [], length, get_or, set, Option, None, Some, IsSome}
use Rattle.std.proofs.Common.{is_some, cond}
use Rattle.std.proofs.Common.{Bool, true, false, not, MatchOption, inl, inr, lit≤}
use Rattle.std.proofs.lemmas.Bool.{cases_lt, false≢true}
use mir.Val.{bool_byte}
use Rattle.std.proofs.Common.{refl, sym, ap, subst, ◌∙◌, arith}
use Rattle.std.proofs.lemmas.Map.{length-set_value}
use Rattle.std.specs.BTreeMap.{insert_entry}
use Rattle.std.specs.Map.{remove_entry}
use Rattle.std.specs.Ordering.{nat_cmp}
use Rattle.svn_lists.proofs.Options.{some_value}
use Rattle.svn_lists.proofs.Sorted.{sorted_nil}
use Rattle.svn_serials.specs.Serials.{get}
use Rattle.svn_serials.specs.Slots.{EndsFilled, IsFilledAt, IsInOrder, IsSound, held, serials_of, values_in}
use Rattle.svn_serials.specs.declared.slots.Slot.{Slot}
use Rattle.svn_serials.proofs.Held.{absent, found, held_write, slot}
use Rattle.svn_serials.proofs.Order.{last_is_greatest, rising_held, ends_set, order_set}
use Rattle.svn_serials.proofs.Pairs.{length_put_known, length_put_new, length_removed}

module _ {V : Type 0} where
  pub sound_nil : IsSound {V = V} [] 0
  sound_nil = record { order = sorted_nil nat_cmp; ends = λ some. absurd (omega arith); counted = refl }

  -- a value is written through the reference
  pub sound_write : (ss : List (Slot V)) (n q i : ℕ) (w : V) → IsSound ss n → IsFilledAt ss q i → IsSound (set ss i (slot q (Some w))) n
  sound_write ss n q i w sound at =
      let v = some_value (get_or (values_in ss) i None) at.value in
      let written = held_write q v.0 w ss i sound.order at.within at.serial v.1 in
      let len = length-set_value (nat_eq q) (held ss) w in
      record {
        order = order_set ss i (slot q (Some w)) at.serial sound.order;
        ends = ends_set ss i (slot q (Some w)) refl sound.ends;
        counted = sound.counted ∙ sym len ∙ ap length (sym written);
      }

  -- a value is taken out, and empty slots go
  pub sound_some : (ss : List (Slot V)) (n q i : ℕ) → IsSound ss n → IsFilledAt ss q i → 1 ≤ n
  sound_some ss n q i sound at =
      let some = subst IsSome (sym (found q ss i sound.order at.within at.serial)) at.value in
      let fewer = length_removed (held ss) q some in
      let counted = sound.counted in
      omega arith

  pub sound_take : (ss ts : List (Slot V)) (n q i : ℕ) → IsSound ss n → IsFilledAt ss q i → held ts ≡ remove_entry (nat_eq q)
      (held ss) → IsInOrder ts
      → EndsFilled ts → IsSound ts (n - 1)
  sound_take ss ts n q i sound at removed order ends =
      let some = subst IsSome (sym (found q ss i sound.order at.within at.serial)) at.value in
      let fewer = length_removed (held ss) q some in
      let counted = sound.counted in
      let same = ap length removed in
      record { order = order; ends = ends; counted = omega arith }

  -- a value is put in
  pub sound_put : (ss ts : List (Slot V)) (n q : ℕ) (w : V) (was : Option V) → IsSound ss n → was ≡ get (held ss) q
      → held ts ≡ insert_entry nat_cmp (held ss) q w → IsInOrder ts → EndsFilled ts → IsSound ts (n + cond (is_some was) 0 1)
  sound_put ss ts n q w None sound is put order ends =
      let more = length_put_new (held ss) q w (sym is) in
      let counted = sound.counted in
      let same = ap length put in
      record { order = order; ends = ends; counted = omega arith }
  sound_put ss ts n q w (Some v) sound is put order ends =
      let stays = length_put_known (held ss) q v w (rising_held ss sound.order) (sym is) in
      let counted = sound.counted in
      let same = ap length put in
      record { order = order; ends = ends; counted = omega arith }

  -- the greatest serial
  pub newest_of : (ss : List (Slot V)) (n : ℕ) → IsSound ss n → (r : Option ℕ)
      → MatchOption r (ss ≡ []) (λ s. (0 < length ss) × (get_or (serials_of ss) (length ss - 1) 0 ≡ s))
      → MatchOption r (held ss ≡ []) (λ s. IsSome (get (held ss) s) × ((q : ℕ) → IsSome (get (held ss) q) → q ≤ s))
  newest_of ss n sound None none = ap held none
  newest_of ss n sound (Some s) last = (
    subst IsSome (sym (found s ss (length ss - 1) sound.order (omega arith) last.1)) (sound.ends last.0),
    λ q some. elim (cases_lt s q) [
      | inl less ↦ absurd (false≢true (ap is_some (sym (absent q ss (too_great q less))) ∙ some))
      | inr le ↦ le
    ],
  )
    where
      too_great : (q : ℕ) → s < q → (k : ℕ) → k < length ss → get_or (serials_of ss) k 0 ≢ q
      too_great q less k within is = let le = last_is_greatest ss sound.order k within in let at = last.1 in omega arith

-- how many more there are
pub more_of : {X : Type 0} (o : Option X) (b : Bool) → is_some o ≡ not b → bool_byte b ≡ cond (is_some o) 0 1
more_of None true is = refl
more_of None false is = absurd (false≢true is)
more_of (Some x) true is = absurd (false≢true (sym is))
more_of (Some x) false is = refl

pub byte_bound : (b : Bool) → bool_byte b ≤ 1
byte_bound true = lit≤ tt
byte_bound false = lit≤ tt
