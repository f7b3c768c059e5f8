-- What slots hold after each change of them.
use Rattle.std.proofs.Common.{nat_eq, ◌≡◌, ◌≢◌, ℕ, zero, suc, ◌-◌, ◌<◌, ◌≤◌, List, [], ◌∷◌, ◌++◌, length, get_or, set, Option}
use Rattle.std.proofs.Common.{None, Some, is_some, true, false, refl, sym, ap, ◌∙◌, arith}
use Rattle.std.proofs.lemmas.Bool.{cond-true, cond-false, eq-eqb, ne_eqb}
use Rattle.std.proofs.lemmas.Map.Entries.{lookup_head, lookup_tail}
use Rattle.std.proofs.lemmas.Map.Keys.{sorted_tail, below_from_sorted}
use Rattle.std.proofs.lemmas.List.{length-map, append-nil, get_or_push, length_push}
use Rattle.std.proofs.lemmas.List.Elements.{filter_map-append}
use Rattle.std.specs.BTreeMap.{insert_entry}
use Rattle.std.proofs.lemmas.Option.{same_Some, slice_get_read}
use Rattle.std.specs.List.{filter, insert, slice_get}
use Rattle.std.specs.Option.{option_to_list}
use Rattle.svn_lists.proofs.Entries.{put_first, put_here, put_later}
use Rattle.svn_lists.proofs.Options.{none_from_test}
use Rattle.svn_serials.specs.Serials.{get}
use Rattle.std.specs.Map.{lookup, remove_entry, set_value}
use Rattle.std.specs.Ordering.{nat_cmp}
use Rattle.svn_serials.specs.Slots.{IsFilledAt, IsInOrder, held, pair_of, serials_of, values_in}
use Rattle.svn_serials.specs.declared.slots.Slot.{Slot}
use Rattle.svn_serials.proofs.Pairs.{remove_none}
use Rattle.svn_serials.proofs.Order.{has_value}

module _ {V : Type 0} where
  abbrev pub slot : ℕ → Option V → Slot V
  slot q o = record { serial = q; value = o }

  -- a look-up passes a slot of another serial
  missed : (q k : ℕ) (o : Option V) (ss : List (Slot V)) → nat_eq q k ≡ false → lookup (nat_eq q) (held (slot k o ∷ ss)) ≡ lookup
      (nat_eq q) (held ss)
  missed q k None ss miss = refl
  missed q k (Some v) ss miss = lookup_tail (nat_eq q) (k, v) (held ss) miss

  -- a serial that no slot has is not in the map
  pub absent : (q : ℕ) (ss : List (Slot V)) → ((k : ℕ) → k < length ss → get_or (serials_of ss) k 0 ≢ q)
      → lookup (nat_eq q) (held ss) ≡ None
  absent q [] h = refl
  absent q (s ∷ ss) h =
      missed q s.serial s.value ss (ne_eqb q s.serial (λ e. h 0 (omega arith) (sym e))) ∙ absent q ss (λ i below. h (suc i) (omega arith))

  -- the first slot is below all others
  first_below : (s : Slot V) (ss : List (Slot V)) → IsInOrder (s ∷ ss) → (i : ℕ) → i < length ss → s.serial < get_or (serials_of ss) i 0
  first_below s ss order i within =
      below_from_sorted (serials_of (s ∷ ss)) 0 (suc i) 0 order (omega arith) (let len = length-map ss (λ
      (s : Slot V). s.serial) in omega arith)

  -- a place that a slot with that serial has is past the first, so the first has another
  first_misses : (q : ℕ) (s : Slot V) (ss : List (Slot V)) → IsInOrder (s ∷ ss) → (i : ℕ) → i < length ss
      → get_or (serials_of ss) i 0 ≡ q → s.serial < q
  first_misses q s ss order i within is = let less = first_below s ss order i within in omega arith

  none_behind : (q : ℕ) (s : Slot V) (ss : List (Slot V)) → IsInOrder (s ∷ ss) → s.serial ≡ q → lookup (nat_eq q) (held ss) ≡ None
  none_behind q s ss order is = absent q ss (λ k within e. let less = first_below s ss order k within in omega arith)

  -- what a look-up finds at the slot of a serial
  pub found : (q : ℕ) (ss : List (Slot V)) (i : ℕ) → IsInOrder ss → i < length ss → get_or (serials_of ss) i 0 ≡ q
      → lookup (nat_eq q) (held ss) ≡ get_or (values_in ss) i None
  found q [] i order within is = absurd (omega arith)
  found q (s ∷ ss) zero order within is = by_value s.serial s.value (eq-eqb q s.serial (sym is))
    where
      by_value : (k : ℕ) (o : Option V) → nat_eq q k ≡ true → lookup (nat_eq q) (held (slot k o ∷ ss)) ≡ o
      by_value k None hit = none_behind q s ss order is
      by_value k (Some v) hit = lookup_head (nat_eq q) (k, v) (held ss) hit
  found q (s ∷ ss) (suc i) order within is =
      missed q s.serial s.value ss (ne_eqb q s.serial (λ e. let less = first_misses q s ss order i (omega arith) is in omega arith))
      ∙ found q ss i (sorted_tail nat_cmp s.serial (serials_of ss) order) (omega arith) is

  -- ---- a pair is put in

  -- before slots that are all above
  put_before : (q : ℕ) (w : V) (ss : List (Slot V)) → ((i : ℕ) → i < length ss → q < get_or (serials_of ss) i 0)
      → insert_entry nat_cmp (held ss) q w ≡ (q, w) ∷ held ss
  put_before q w [] above = refl
  put_before q w (s ∷ ss) above = by_value s.serial s.value (above 0 (omega arith)) (put_before q w ss (λ i within. above (suc i)
      (omega arith)))
    where
      by_value : (k : ℕ) (o : Option V) → q < k → insert_entry nat_cmp (held ss) q w ≡ (q, w) ∷ held ss
          → insert_entry nat_cmp (held (slot k o ∷ ss)) q w ≡ (q, w) ∷ held (slot k o ∷ ss)
      by_value k None less rest = rest
      by_value k (Some v) less rest = put_first q k v w (held ss) less

  -- after a slot that is below
  put_behind : (q : ℕ) (w : V) (k : ℕ) (o : Option V) (ss ts : List (Slot V)) → k < q → held ts ≡ insert_entry nat_cmp (held ss) q w
      → held (slot k o ∷ ts) ≡ insert_entry nat_cmp (held (slot k o ∷ ss)) q w
  put_behind q w k None ss ts less rest = rest
  put_behind q w k (Some v) ss ts less rest = ap (λ (es : List (ℕ × V)). (k, v) ∷ es) rest ∙ sym (put_later q k v w (held ss) less)

  -- in a new slot
  pub held_insert : (q : ℕ) (w : V) (ss : List (Slot V)) (p : ℕ) → ((i : ℕ) → i < p → i < length ss → get_or (serials_of ss) i 0 < q)
      → ((i : ℕ) → p ≤ i → i < length ss → q < get_or (serials_of ss) i 0) → held (insert ss p (slot q (Some w))) ≡ insert_entry nat_cmp
      (held ss) q w
  held_insert q w ss zero below from = sym (put_before q w ss (λ i within. from i (omega arith) within))
  held_insert q w [] (suc p) below from = refl
  held_insert q w (s ∷ ss) (suc p) below from =
      put_behind q w s.serial s.value ss (insert ss p (slot q (Some w))) (below 0 (omega arith) (omega arith))
      (held_insert q w ss p (λ i before within. below (suc i) (omega arith) (omega arith)) (λ i after within. from (suc i) (omega arith)
      (omega arith)))

  -- in the slot that the serial has
  pub held_put : (q : ℕ) (w : V) (ss : List (Slot V)) (i : ℕ) → IsInOrder ss → i < length ss → get_or (serials_of ss) i 0 ≡ q
      → held (set ss i (slot q (Some w))) ≡ insert_entry nat_cmp (held ss) q w
  held_put q w [] i order within is = absurd (omega arith)
  held_put q w (s ∷ ss) zero order within is = by_value s.serial s.value is
    where
      by_value : (k : ℕ) (o : Option V) → k ≡ q → (q, w) ∷ held ss ≡ insert_entry nat_cmp (held (slot k o ∷ ss)) q w
      by_value k None same = sym (put_before q w ss (λ i inside. let less = first_below s ss order i inside in omega arith))
      by_value k (Some v) same = ap (λ (n : ℕ). (n, w) ∷ held ss) (sym same) ∙ sym (put_here q k v w (held ss) (sym same))
  held_put q w (s ∷ ss) (suc i) order within is =
      put_behind q w s.serial s.value ss (set ss i (slot q (Some w))) (first_misses q s ss order i (omega arith) is)
      (held_put q w ss i (sorted_tail nat_cmp s.serial (serials_of ss) order) (omega arith) is)

  -- a value is written
  pub held_write : (q : ℕ) (v w : V) (ss : List (Slot V)) (i : ℕ) → IsInOrder ss → i < length ss → get_or (serials_of ss) i 0 ≡ q
      → get_or (values_in ss) i None ≡ Some v → held (set ss i (slot q (Some w))) ≡ set_value (nat_eq q) (held ss) w
  held_write q v w [] i order within is has = absurd (omega arith)
  held_write q v w (s ∷ ss) zero order within is has = by_value s.serial s.value is has
    where
      by_value : (k : ℕ) (o : Option V) → k ≡ q → o ≡ Some v → (q, w) ∷ held ss ≡ set_value (nat_eq q) (held (slot k o ∷ ss)) w
      by_value k None same some = absurd (let no : ⊥ = cc in no)
      by_value k (Some u) same some =
          ap (λ (n : ℕ). (n, w) ∷ held ss) (sym same)
          ∙ sym (cond-true (nat_eq q k) ((k, w) ∷ held ss) ((k, u) ∷ set_value (nat_eq q) (held ss) w) (eq-eqb q k (sym same)))
  held_write q v w (s ∷ ss) (suc i) order within is has =
      by_value s.serial s.value (ne_eqb q s.serial (λ e. let less = first_misses q s ss order i (omega arith) is in omega arith))
      (held_write q v w ss i (sorted_tail nat_cmp s.serial (serials_of ss) order) (omega arith) is has)
    where
      by_value : (k : ℕ) (o : Option V) → nat_eq q k ≡ false → held (set ss i (slot q (Some w))) ≡ set_value (nat_eq q) (held ss) w
          → held (slot k o ∷ set ss i (slot q (Some w))) ≡ set_value (nat_eq q) (held (slot k o ∷ ss)) w
      by_value k None miss rest = rest
      by_value k (Some u) miss rest =
          ap (λ (es : List (ℕ × V)). (k, u) ∷ es) rest
          ∙ sym (cond-false (nat_eq q k) ((k, w) ∷ held ss) ((k, u) ∷ set_value (nat_eq q) (held ss) w) miss)

  -- ---- a value is taken out

  pub held_take : (q : ℕ) (ss : List (Slot V)) (i : ℕ) → IsInOrder ss → i < length ss → get_or (serials_of ss) i 0 ≡ q
      → held (set ss i (slot q None)) ≡ remove_entry (nat_eq q) (held ss)
  held_take q [] i order within is = absurd (omega arith)
  held_take q (s ∷ ss) zero order within is = by_value s.serial s.value (eq-eqb q s.serial (sym is))
    where
      by_value : (k : ℕ) (o : Option V) → nat_eq q k ≡ true → held ss ≡ remove_entry (nat_eq q) (held (slot k o ∷ ss))
      by_value k None hit = sym (remove_none q (held ss) (none_behind q s ss order is))
      by_value k (Some v) hit = sym (cond-true (nat_eq q k) (held ss) ((k, v) ∷ remove_entry (nat_eq q) (held ss)) hit)
  held_take q (s ∷ ss) (suc i) order within is =
      by_value s.serial s.value (ne_eqb q s.serial (λ e. let less = first_misses q s ss order i (omega arith) is in omega arith))
      (held_take q ss i (sorted_tail nat_cmp s.serial (serials_of ss) order) (omega arith) is)
    where
      by_value : (k : ℕ) (o : Option V) → nat_eq q k ≡ false → held (set ss i (slot q None)) ≡ remove_entry (nat_eq q) (held ss)
          → held (slot k o ∷ set ss i (slot q None)) ≡ remove_entry (nat_eq q) (held (slot k o ∷ ss))
      by_value k None miss rest = rest
      by_value k (Some v) miss rest =
          ap (λ (es : List (ℕ × V)). (k, v) ∷ es) rest
          ∙ sym (cond-false (nat_eq q k) (held ss) ((k, v) ∷ remove_entry (nat_eq q) (held ss)) miss)

  -- ---- empty slots go

  pub held_front : (ss : List (Slot V)) (k : ℕ) → held (ss ++ slot k None ∷ []) ≡ held ss
  held_front ss k = filter_map-append pair_of ss (slot k None ∷ []) ∙ append-nil (held ss)

  pub held_filter : (ss : List (Slot V)) → held (filter has_value ss) ≡ held ss
  held_filter [] = refl
  held_filter (s ∷ ss) = by_value s.serial s.value (held_filter ss)
    where
      by_value : (k : ℕ) (o : Option V) → held (filter has_value ss) ≡ held ss → held (filter has_value (slot k o ∷ ss)) ≡ held
          (slot k o ∷ ss)
      by_value k None rest = rest
      by_value k (Some v) rest = ap (λ (es : List (ℕ × V)). (k, v) ∷ es) rest

  -- the last slot, which is empty, is popped
  module _ (ss ts : List (Slot V)) (last : Slot V) (is_last : Some last ≡ slice_get ss (length ss - 1))
      (empty : is_some last.value ≡ false) where
    popped_slot : (s : Slot V) → ss ≡ ts ++ s ∷ [] → held (ts ++ s ∷ []) ≡ held ts
    popped_slot s split =
        let len = ap length split ∙ length_push ts s in
        let at : slice_get (ts ++ s ∷ []) (length ss - 1) ≡ Some s =
        slice_get_read (ts ++ s ∷ []) (length ss) (length ss - 1) s (ap length split) (omega arith)
        (sym (get_or_push ts s s (length ss - 1) (omega arith))) in
        let same : last ≡ s = same_Some last s (is_last ∙ ap (λ (us : List (Slot V)). slice_get us (length ss - 1)) split ∙ at) in
        let none : s.value ≡ None = none_from_test s.value (ap (λ (t : Slot V). is_some t.value) (sym same) ∙ empty) in
        ap (λ (o : Option V). held (ts ++ slot s.serial o ∷ [])) none ∙ held_front ts s.serial

    pub held_popped : (r : Option (Slot V)) → ss ≡ ts ++ option_to_list r → held ts ≡ held ss
    held_popped None split = ap held (sym (split ∙ append-nil ts))
    held_popped (Some s) split = sym (ap held split ∙ popped_slot s split)

  -- ---- a map by its slots

  -- what a look-up finds where a search by serials found the slot, and where that has no value
  pub get_at : (q i : ℕ) (ss : List (Slot V)) → IsInOrder ss → IsFilledAt ss q i → get (held ss) q ≡ get_or (values_in ss) i None
  get_at q i ss order at = found q ss i order at.within at.serial

  pub length_held : (ss : List (Slot V)) → length (held ss) ≤ length ss
  length_held [] = omega arith
  length_held (s ∷ ss) = by_value s.serial s.value (length_held ss)
    where
      by_value : (k : ℕ) (o : Option V) → length (held ss) ≤ length ss → length (held (slot k o ∷ ss)) ≤ suc (length ss)
      by_value k None rest = omega arith
      by_value k (Some v) rest = omega arith
