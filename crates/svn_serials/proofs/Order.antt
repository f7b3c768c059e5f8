-- Slots stay in order, and end with a value.
use Rattle.std.proofs.Common.{◌≡◌, ℕ, zero, suc, ◌+◌, ◌-◌, ◌<◌, ◌≤◌, List, [], ◌∷◌, ◌++◌, length, get_or, set, Option, None, Some}
use Rattle.std.proofs.Common.{IsSome, is_some, Bool, true, false, cond, refl, sym, ap, subst, ◌∙◌, arith}
use Rattle.std.proofs.Common.{◌≢◌, ltb, MatchOption, IfSome, inl, inr}
use Rattle.std.proofs.lemmas.Bool.{cases_eq, cases_lt, ltb-true}
use Rattle.std.proofs.lemmas.Bool.{ltb-false}
use Rattle.std.proofs.lemmas.List.{map-set, set-get_or, get_or-map, get_or-set_same, get_or-set_other, length-map, length-set}
use Rattle.std.proofs.lemmas.List.{get_or_push, length_push}
use Rattle.std.proofs.lemmas.List.Edits.{get_or-insert_above, get_or-insert_at, length-insert}
use Rattle.std.proofs.lemmas.Map.Keys.{sorted_head, sorted_tail, below_from_sorted}
use Rattle.std.proofs.lemmas.Option.{get_or_from_slice_get}
use Rattle.std.specs.List.{filter, insert, slice_get}
use Rattle.std.specs.List.Sorted.{IsNonDecreasingBy, IsPartitionPoint, IsStrictlySortedBy}
use Rattle.std.specs.Map.{keys_of}
use Rattle.std.specs.Ordering.{nat_cmp}
use Rattle.std.specs.declared.cmp.Ordering.TheVariants.{Less}
use Rattle.svn_lists.proofs.Sorted.{AllAbove, sorted_cons, sorted_front, sorted_insert_number, sorted_nil}
use Rattle.svn_serials.specs.Serials.{IsRising}
use Rattle.svn_serials.specs.Slots.{EndsFilled, IsGap, IsInOrder, IsNowhere, held, serials_of, values_in}
use Rattle.svn_serials.specs.declared.slots.Slot.{Slot}

-- ---- slots

module _ {V : Type 0} where
  abbrev pub has_value : Slot V → Bool
  has_value s = is_some s.value

  pub serials_append : (ss ts : List (Slot V)) → serials_of (ss ++ ts) ≡ serials_of ss ++ serials_of ts
  serials_append [] ts = refl
  serials_append (s ∷ ss) ts = ap (λ (ks : List ℕ). s.serial ∷ ks) (serials_append ss ts)

  serials_insert : (ss : List (Slot V)) (p : ℕ) (t : Slot V) → serials_of (insert ss p t) ≡ insert (serials_of ss) p t.serial
  serials_insert ss zero t = refl
  serials_insert [] (suc p) t = refl
  serials_insert (s ∷ ss) (suc p) t = ap (λ (ks : List ℕ). s.serial ∷ ks) (serials_insert ss p t)

  -- a slot is written, and its serial stays
  pub serials_set : (ss : List (Slot V)) (i : ℕ) (t : Slot V) → get_or (serials_of ss) i 0 ≡ t.serial
      → serials_of (set ss i t) ≡ serials_of ss
  serials_set ss i t same =
      map-set (λ s. s.serial) ss i t ∙ ap (set (serials_of ss) i) (sym same) ∙ set-get_or (serials_of ss) i 0

  pub order_set : (ss : List (Slot V)) (i : ℕ) (t : Slot V) → get_or (serials_of ss) i 0 ≡ t.serial → IsInOrder ss → IsInOrder (set ss i t)
  order_set ss i t same order = subst (IsStrictlySortedBy nat_cmp) (sym (serials_set ss i t same)) order

  pub order_insert : (ss : List (Slot V)) (p : ℕ) (t : Slot V) → IsInOrder ss
      → ((i : ℕ) → i < p → i < length ss → get_or (serials_of ss) i 0 < t.serial)
      → ((i : ℕ) → p ≤ i → i < length ss → t.serial < get_or (serials_of ss) i 0) → IsInOrder (insert ss p t)
  order_insert ss p t order below from =
      let len = length-map ss (λ (s : Slot V). s.serial) in
      subst (IsStrictlySortedBy nat_cmp) (sym (serials_insert ss p t))
      (sorted_insert_number t.serial (serials_of ss) p order (λ i before within. below i before (omega arith))
      (λ i after within. from i after
      (omega arith)))

  pub order_front : (ss ts : List (Slot V)) → IsInOrder (ss ++ ts) → IsInOrder ss
  order_front ss ts order =
      sorted_front nat_cmp (serials_of ss) (serials_of ts) (subst (IsStrictlySortedBy nat_cmp) (serials_append ss ts) order)

  above_filter : (n : ℕ) (ss : List (Slot V)) → AllAbove n (serials_of ss) → AllAbove n (serials_of (filter has_value ss))
  above_filter n [] above = tt
  above_filter n (s ∷ ss) above =
      elim (has_value s) as (λ (b : Bool). AllAbove n (serials_of (cond b (s ∷ filter has_value ss) (filter has_value ss)))) [
        | true ↦ (above.0, above_filter n ss above.1)
        | false ↦ above_filter n ss above.1
      ]

  pub order_filter : (ss : List (Slot V)) → IsInOrder ss → IsInOrder (filter has_value ss)
  order_filter [] order = sorted_nil nat_cmp
  order_filter (s ∷ ss) order =
      let rest = order_filter ss (sorted_tail nat_cmp s.serial (serials_of ss) order) in
      elim (has_value s) as (λ (b : Bool). IsInOrder (cond b (s ∷ filter has_value ss) (filter has_value ss))) [
        | true ↦
            sorted_cons nat_cmp s.serial (serials_of (filter has_value ss)) (above_filter s.serial ss (sorted_head nat_cmp s.serial
            (serials_of ss) order)) rest
        | false ↦ rest
      ]

  above_held : (n : ℕ) (ss : List (Slot V)) → AllAbove n (serials_of ss) → AllAbove n (keys_of (held ss))
  above_held n [] above = tt
  above_held n (s ∷ ss) above = by_value s.serial s.value above.0 (above_held n ss above.1)
    where
      by_value : (k : ℕ) (o : Option V) → nat_cmp n k ≡ Less → AllAbove n (keys_of (held ss))
          → AllAbove n (keys_of (held (record { serial = k; value = o } ∷ ss)))
      by_value k None first rest = rest
      by_value k (Some v) first rest = (first, rest)

  -- what slots in order hold is in order
  pub rising_held : (ss : List (Slot V)) → IsInOrder ss → IsRising (held ss)
  rising_held [] order = sorted_nil nat_cmp
  rising_held (s ∷ ss) order =
      by_value s.serial s.value (sorted_head nat_cmp s.serial (serials_of ss) order) (rising_held ss (sorted_tail nat_cmp s.serial
      (serials_of ss) order))
    where
      by_value : (k : ℕ) (o : Option V) → AllAbove k (serials_of ss) → IsRising (held ss) → IsRising (held
          (record { serial = k; value = o } ∷ ss))
      by_value k None above rest = rest
      by_value k (Some v) above rest = sorted_cons nat_cmp k (keys_of (held ss)) (above_held k ss above) rest

  -- ---- places

  pub serial_in : (ss : List (Slot V)) (i : ℕ) (d : Slot V) → i < length ss → get_or (serials_of ss) i 0 ≡ (get_or ss i d).serial
  serial_in ss i d within = get_or-map (λ (t : Slot V). t.serial) ss i d 0 within

  pub value_in : (ss : List (Slot V)) (i : ℕ) (d : Slot V) → i < length ss → get_or (values_in ss) i None ≡ (get_or ss i d).value
  value_in ss i d within = get_or-map (λ (t : Slot V). t.value) ss i d None within

  pub serial_at : (ss : List (Slot V)) (i : ℕ) (s : Slot V) → i < length ss → s ≡ get_or ss i s → get_or (serials_of ss) i 0 ≡ s.serial
  serial_at ss i s within is = get_or-map (λ (t : Slot V). t.serial) ss i s 0 within ∙ ap (λ (t : Slot V). t.serial) (sym is)

  pub value_at : (ss : List (Slot V)) (i : ℕ) (s : Slot V) → i < length ss → s ≡ get_or ss i s → get_or (values_in ss) i None ≡ s.value
  value_at ss i s within is = get_or-map (λ (t : Slot V). t.value) ss i s None within ∙ ap (λ (t : Slot V). t.value) (sym is)

  pub serial_below : (ss : List (Slot V)) → IsInOrder ss → (i j : ℕ) → i < j → j < length ss
      → get_or (serials_of ss) i 0 < get_or (serials_of ss) j 0
  serial_below ss order i j less within =
      below_from_sorted (serials_of ss) i j 0 order less (let len = length-map ss (λ (s : Slot V). s.serial) in omega arith)

  -- no serial is above that of the last place
  pub last_is_greatest : (ss : List (Slot V)) → IsInOrder ss → (i : ℕ) → i < length ss
      → get_or (serials_of ss) i 0 ≤ get_or (serials_of ss) (length ss - 1) 0
  last_is_greatest ss order i within = elim (cases_lt i (length ss - 1)) [
    | inl before ↦ let less = serial_below ss order i (length ss - 1) before (omega arith) in omega arith
    | inr last ↦ let same : i ≡ length ss - 1 = omega arith in let is = ap (λ (k : ℕ). get_or (serials_of ss) k 0) same in omega arith
  ]

  -- a serial that is above the last is above all
  pub above_all : (ss : List (Slot V)) → IsInOrder ss → (q : ℕ) (r : Option ℕ)
      → MatchOption r (ss ≡ []) (λ s. (0 < length ss) × (get_or (serials_of ss) (length ss - 1) 0 ≡ s)) → IfSome r (λ s. s < q)
      → (k : ℕ) → k < length ss → get_or (serials_of ss) k 0 < q
  above_all ss order q None none less k within = let empty = ap length none in absurd (omega arith)
  above_all ss order q (Some s) last less k within = let le = last_is_greatest ss order k within in let at = last.1 in omega arith

  -- a search ends at the place p without a hit
  pub gap_found : (ss : List (Slot V)) (q p : ℕ) → IsInOrder ss → p ≤ length ss → ((k : ℕ) → k < p → get_or (serials_of ss) k 0 < q)
      → ((k : ℕ) → p ≤ k → k < length ss → q ≤ get_or (serials_of ss) k 0) → (p < length ss → get_or (serials_of ss) p 0 ≢ q)
      → IsGap ss q p
  gap_found ss q p order bound below from other = (
    bound,
    below,
    λ k after within. elim (cases_eq k p) [
      | inl same ↦
          let least = from k after within in
          let is = ap (λ (i : ℕ). get_or (serials_of ss) i 0) same in
          let apart : get_or (serials_of ss) p 0 ≢ q = other (omega arith) in
          omega arith
      | inr apart ↦
          let first = from p (omega arith) (omega arith) in
          let less = serial_below ss order p k (omega arith) within in
          omega arith
    ],
  )

  pub gap_nowhere : (ss : List (Slot V)) (q p : ℕ) → IsGap ss q p → IsNowhere ss q
  gap_nowhere ss q p gap k within is = elim (cases_lt k p) [
    | inl before ↦ let less = gap.1 k before in omega arith
    | inr after ↦ let more = gap.2 k after within in omega arith
  ]

  pub rises : (ss : List (Slot V)) → IsInOrder ss → IsNonDecreasingBy (λ s. s.serial) ss
  rises ss order i j d le within = elim (cases_lt i j) [
    | inl less ↦
        let below = serial_below ss order i j less within in
        let at_i = get_or-map (λ (s : Slot V). s.serial) ss i d 0 (omega arith) in
        let at_j = get_or-map (λ (s : Slot V). s.serial) ss j d 0 within in
        omega arith
    | inr same ↦ let is : i ≡ j = omega arith in let ends = ap (λ (k : ℕ). (get_or ss k d).serial) is in omega arith
  ]

  -- what holds of a slot at a place, whatever value is taken for a place that is not there
  with_first : {q : ℕ} (ss : List (Slot V)) (k : ℕ) → k < length ss → ((d : Slot V) → (get_or ss k d).serial < q)
      → get_or (serials_of ss) k 0 < q
  with_first [] k within h = absurd (omega arith)
  with_first (s ∷ ss) k within h =
      let at = get_or-map (λ (t : Slot V). t.serial) (s ∷ ss) k s 0 within in let less = h s in omega arith

  with_first' : {q : ℕ} (ss : List (Slot V)) (k : ℕ) → k < length ss → ((d : Slot V) → q ≤ (get_or ss k d).serial)
      → q ≤ get_or (serials_of ss) k 0
  with_first' [] k within h = absurd (omega arith)
  with_first' (s ∷ ss) k within h =
      let at = get_or-map (λ (t : Slot V). t.serial) (s ∷ ss) k s 0 within in let least = h s in omega arith

  -- what a binary search says
  module _ (ss : List (Slot V)) (p q : ℕ) where
    abbrev pub IsPlaceFor : Type 0
    IsPlaceFor = IsPartitionPoint (λ s. ltb s.serial q ≡ true) (λ s. ltb s.serial q ≡ false) ss p

    pub place_below : p ≤ length ss → IsPlaceFor → (k : ℕ) → k < p → get_or (serials_of ss) k 0 < q
    place_below bound point k before = with_first ss k (omega arith)
        (λ d. ltb-true (get_or ss k d).serial q (point.0 k d (omega arith) before))

    pub place_from : IsPlaceFor → (k : ℕ) → p ≤ k → k < length ss → q ≤ get_or (serials_of ss) k 0
    place_from point k after within = with_first' ss k within (λ d. ltb-false (get_or ss k d).serial q (point.1 k d after within))

  -- ---- the last slot

  filter_filled : (ss : List (Slot V)) (i : ℕ) → i < length (filter has_value ss) → IsSome (get_or (values_in (filter has_value ss)) i None)
  filter_filled [] i within = absurd (omega arith)
  filter_filled (s ∷ ss) i within = by_value s.serial s.value (filter_filled ss) i within
    where
      by_value : (k : ℕ) (o : Option V) → ((i : ℕ) → i < length (filter has_value ss) → IsSome (get_or (values_in
          (filter has_value ss)) i None))
          → (i : ℕ) → i < length (filter has_value (record { serial = k; value = o } ∷ ss))
          → IsSome (get_or (values_in (filter has_value (record { serial = k; value = o } ∷ ss))) i None)
      by_value k None rest i inside = rest i inside
      by_value k (Some v) rest zero inside = refl
      by_value k (Some v) rest (suc i) inside = rest i (omega arith)

  pub ends_filter : (ss : List (Slot V)) → EndsFilled (filter has_value ss)
  ends_filter ss some = filter_filled ss (length (filter has_value ss) - 1) (omega arith)

  pub ends_push : (ss : List (Slot V)) (s : Slot V) → IsSome s.value → EndsFilled (ss ++ s ∷ [])
  ends_push ss s filled some =
      let len = length_push ss s in
      let at = get_or_push ss s s (length (ss ++ s ∷ []) - 1) (omega arith) in
      subst IsSome (sym (value_at (ss ++ s ∷ []) (length (ss ++ s ∷ []) - 1) s (omega arith) (sym at))) filled

  -- the last stays, or the slot that is written has a value
  pub ends_set : (ss : List (Slot V)) (i : ℕ) (s : Slot V) → IsSome s.value → EndsFilled ss → EndsFilled (set ss i s)
  ends_set ss i s filled ends some =
      let len = length-set ss i s in
      let last = length ss - 1 in
      let same_last : length (set ss i s) - 1 ≡ last = omega arith in
      let write = map-set (λ (t : Slot V). t.value) ss i s in
      let here : get_or (values_in (set ss i s)) (length (set ss i s) - 1) None ≡ get_or (set (values_in ss) i s.value) last None =
      ap (λ (k : ℕ). get_or (values_in (set ss i s)) k None) same_last ∙ ap (λ (vs : List (Option V)). get_or vs last None) write in
      subst IsSome (sym here) (elim (cases_eq last i) [
        | inl same ↦
            let at : get_or (set (values_in ss) i s.value) last None ≡ s.value =
            ap (λ (k : ℕ). get_or (set (values_in ss) i s.value) k None) same
            ∙ get_or-set_same (values_in ss) i s.value None (let count = length-map ss (λ (t : Slot V). t.value) in omega arith) in
            subst IsSome (sym at) filled
        | inr apart ↦ subst IsSome (sym (get_or-set_other (values_in ss) i last s.value None apart)) (ends (omega arith))
      ])

  values_insert : (ss : List (Slot V)) (p : ℕ) (t : Slot V) → values_in (insert ss p t) ≡ insert (values_in ss) p t.value
  values_insert ss zero t = refl
  values_insert [] (suc p) t = refl
  values_insert (s ∷ ss) (suc p) t = ap (λ (vs : List (Option V)). s.value ∷ vs) (values_insert ss p t)

  pub ends_insert : (ss : List (Slot V)) (p : ℕ) (s : Slot V) → p ≤ length ss → IsSome s.value → EndsFilled ss → EndsFilled (insert ss p s)
  ends_insert ss p s bound filled ends some =
      let len = length-insert ss p s bound in
      let count = length-map ss (λ (t : Slot V). t.value) in
      let last : length (insert ss p s) - 1 ≡ length ss = omega arith in
      let here : get_or (values_in (insert ss p s)) (length (insert ss p s) - 1) None ≡ get_or (insert (values_in ss) p s.value)
      (length ss) None =
      ap (λ (k : ℕ). get_or (values_in (insert ss p s)) k None) last ∙ ap (λ (vs : List (Option V)). get_or vs (length ss) None)
      (values_insert ss p s) in
      subst IsSome (sym here) (elim (cases_eq p (length ss)) [
        | inl same ↦
            let at : get_or (insert (values_in ss) p s.value) (length ss) None ≡ s.value =
            ap (λ (k : ℕ). get_or (insert (values_in ss) p s.value) k None) (sym same) ∙ get_or-insert_at (values_in ss) p s.value None
            (omega arith) in
            subst IsSome (sym at) filled
        | inr apart ↦
            let before : length ss ≡ length ss - 1 + 1 = omega arith in
            let at : get_or (insert (values_in ss) p s.value) (length ss) None ≡ get_or (values_in ss) (length ss - 1) None =
            ap (λ (k : ℕ). get_or (insert (values_in ss) p s.value) k None) before
            ∙ get_or-insert_above (values_in ss) p s.value None (length ss - 1) (omega arith) (omega arith) in
            subst IsSome (sym at) (ends (omega arith))
      ])

  pub ends_from_last : (ss : List (Slot V)) (s : Slot V) → Some s ≡ slice_get ss (length ss - 1) → IsSome s.value → EndsFilled ss
  ends_from_last ss s last filled some =
      let is = get_or_from_slice_get ss (length ss - 1) s s (sym last) in
      subst IsSome (sym (value_at ss (length ss - 1) s (omega arith) (sym is))) filled
