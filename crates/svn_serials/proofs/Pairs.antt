-- For callers: a map by its pairs, after one is put in, written or removed.
use Rattle.std.proofs.Common.{nat_eq, ◌≡◌, ◌≢◌, ℕ, suc, ◌+◌, ◌<◌, List, [], ◌∷◌, length, Option, None, Some, IsSome, is_some, Bool}
use Rattle.std.proofs.Common.{true, false, cond}
use Rattle.std.proofs.Common.{refl, sym, ap, subst, ◌∙◌, arith, inl, inr}
use Rattle.std.proofs.lemmas.Bool.{cases_eq, cond-true, cond-false, eq-eqb, eqb-true, ne_eqb, false≢true}
use Rattle.std.proofs.lemmas.List.Sorted.{IsPermutation-cons, IsPermutation-middle, IsPermutation-refl, IsPermutation-sym}
use Rattle.std.proofs.lemmas.List.Sorted.{IsPermutation-trans}
use Rattle.std.proofs.lemmas.List.Sorted.{length_permutation}
use Rattle.std.proofs.lemmas.Map.{keys-set_value, lookup-none, lookup-remove_entry, lookup-set_value}
use Rattle.std.proofs.lemmas.Map.Keys.{sorted_head, sorted_tail}
use Rattle.std.proofs.lemmas.Option.{none-some, same_Some}
use Rattle.std.specs.BTreeMap.{insert_entry}
use Rattle.std.specs.Cmp.{nat_eq_equiv}
use Rattle.std.specs.List.{IsDistinct}
use Rattle.std.specs.List.Sorted.{IsPermutation, IsStrictlySortedBy}
use Rattle.std.specs.Map.{keys_of, remove_entry, set_value}
use Rattle.std.specs.Ordering.{nat_cmp}
use Rattle.svn_lists.proofs.Entries.{none_passes, put_cases}
use Rattle.svn_lists.proofs.Orderings.{less_from_nat_cmp}
use Rattle.svn_lists.proofs.Sorted.{AllAbove, distinct_from_sorted}
use Rattle.svn_serials.specs.Serials.{IsRising, get}

module _ {V : Type 0} where
  pub put_here : (es : List (ℕ × V)) (k : ℕ) (w : V) → get (insert_entry nat_cmp es k w) k ≡ Some w
  put_here [] k w = cond-true _ _ _ (eq-eqb k k refl)
  put_here (e ∷ es) k w =
      put_cases (λ fs. get fs k ≡ Some w) k w e es (λ _. cond-true _ _ _ (eq-eqb k k refl))
      (λ same. cond-true _ _ _ (eq-eqb k e.0 same)) (λ more. cond-false _ _ _ (ne_eqb k e.0 (λ same. omega arith)) ∙ put_here es k w)

  pub put_apart : (es : List (ℕ × V)) (k : ℕ) (w : V) (q : ℕ) → q ≢ k → get (insert_entry nat_cmp es k w) q ≡ get es q
  put_apart [] k w q apart = cond-false _ _ _ (ne_eqb q k apart)
  put_apart (e ∷ es) k w q apart =
      put_cases (λ fs. get fs q ≡ get (e ∷ es) q) k w e es (λ _. cond-false _ _ _ (ne_eqb q k apart))
      (λ same. let miss = ne_eqb q e.0 (λ is. apart (is ∙ sym same)) in cond-false _ _ _ miss ∙ sym (cond-false _ _ _ miss))
      (λ _. ap (cond (nat_eq q e.0) (Some e.1)) (put_apart es k w q apart))

  -- each serial is there once
  pub distinct_from_rising : (es : List (ℕ × V)) → IsRising es → IsDistinct nat_eq (keys_of es)
  distinct_from_rising es rising = distinct_from_sorted (keys_of es) rising

  removed : (es : List (ℕ × V)) (k q : ℕ) → IsRising es
      → get (remove_entry (nat_eq k) es) q ≡ cond (nat_eq k q) None (get es q)
  removed es k q rising =
      lookup-remove_entry nat_eq_equiv (nat_eq k) (λ x y is. ap (λ (z : ℕ). nat_eq z y) (eqb-true k x is)) q es
      (distinct_from_rising es rising)

  pub removed_here : (es : List (ℕ × V)) (k : ℕ) → IsRising es → get (remove_entry (nat_eq k) es) k ≡ None
  removed_here es k rising = removed es k k rising ∙ cond-true (nat_eq k k) None (get es k) (eq-eqb k k refl)

  pub removed_apart : (es : List (ℕ × V)) (k q : ℕ) → IsRising es → q ≢ k → get (remove_entry (nat_eq k) es) q ≡ get es q
  removed_apart es k q rising apart =
      removed es k q rising ∙ cond-false (nat_eq k q) None (get es q) (ne_eqb k q (λ same. apart (sym same)))

  written : (es : List (ℕ × V)) (k q : ℕ) (w : V) → IsSome (get es k)
      → get (set_value (nat_eq k) es w) q ≡ cond (nat_eq k q) (Some w) (get es q)
  written es k q w some = lookup-set_value nat_eq_equiv (nat_eq k) (λ x y is. ap (λ (z : ℕ). nat_eq z y) (eqb-true k x is)) q w es some

  pub written_here : (es : List (ℕ × V)) (k : ℕ) (w : V) → IsSome (get es k) → get (set_value (nat_eq k) es w) k ≡ Some w
  written_here es k w some = written es k k w some ∙ cond-true (nat_eq k k) (Some w) (get es k) (eq-eqb k k refl)

  pub written_apart : (es : List (ℕ × V)) (k q : ℕ) (w : V) → IsSome (get es k) → q ≢ k
      → get (set_value (nat_eq k) es w) q ≡ get es q
  written_apart es k q w some apart =
      written es k q w some ∙ cond-false (nat_eq k q) (Some w) (get es q) (ne_eqb k q (λ same. apart (sym same)))

  pub rising_written : (es : List (ℕ × V)) (k : ℕ) (w : V) → IsRising es → IsRising (set_value (nat_eq k) es w)
  rising_written es k w rising = subst (IsStrictlySortedBy nat_cmp) (sym (keys-set_value (nat_eq k) es w)) rising

  -- a pair with a new serial
  pub put_new : (es : List (ℕ × V)) (k : ℕ) (w : V) → get es k ≡ None → IsPermutation ((k, w) ∷ es) (insert_entry nat_cmp es k w)
  put_new [] k w none = IsPermutation-refl ((k, w) ∷ [])
  put_new (e ∷ es) k w none =
      put_cases (λ fs. IsPermutation ((k, w) ∷ e ∷ es) fs) k w e es (λ _. IsPermutation-refl ((k, w) ∷ e ∷ es))
      (λ same. absurd (none-some e.1 (sym none ∙ cond-true _ _ _ (eq-eqb k e.0 same))))
      (λ more. IsPermutation-trans ((k, w) ∷ e ∷ es) (e ∷ (k, w) ∷ es) (e ∷ insert_entry nat_cmp es k w)
      (IsPermutation-sym (e ∷ (k, w) ∷ es) ((k, w) ∷ e ∷ es) (IsPermutation-middle (e ∷ []) (k, w) es))
      (IsPermutation-cons e ((k, w) ∷ es) (insert_entry nat_cmp es k w)
      (put_new es k w (sym (cond-false (nat_eq k e.0) (Some e.1) (get es k) (ne_eqb k e.0 (λ same. omega arith))) ∙ none))))

  pub length_put_new : (es : List (ℕ × V)) (k : ℕ) (w : V) → get es k ≡ None → length (insert_entry nat_cmp es k w) ≡ length es + 1
  length_put_new es k w none =
      let same = length_permutation ((k, w) ∷ es) (insert_entry nat_cmp es k w) (put_new es k w none) in omega arith

  pub length_put_known : (es : List (ℕ × V)) (k : ℕ) (v w : V) → IsRising es → get es k ≡ Some v
      → length (insert_entry nat_cmp es k w) ≡ length es
  length_put_known [] k v w rising is = absurd (none-some v is)
  length_put_known (e ∷ es) k v w rising is =
      put_cases (λ fs. length fs ≡ suc (length es)) k w e es (λ less. absurd (none-some v (sym (none_before less) ∙ is))) (λ _. refl)
      (λ more. let same = length_put_known es k v w (sorted_tail nat_cmp e.0 (keys_of es) rising)
      (sym (cond-false (nat_eq k e.0) (Some e.1) (get es k) (ne_eqb k e.0 (λ same. omega arith))) ∙ is) in omega arith)
    where
      none_before : k < e.0 → get (e ∷ es) k ≡ None
      none_before less = lookup-none (nat_eq k) (e ∷ es)
          (ne_eqb k e.0 (λ same. omega arith), none_passes k e.0 es less (sorted_head nat_cmp e.0 (keys_of es) rising))

  pub length_removed : (es : List (ℕ × V)) (k : ℕ) → IsSome (get es k) → length (remove_entry (nat_eq k) es) + 1 ≡ length es
  length_removed [] k some = absurd (false≢true some)
  length_removed (e ∷ es) k some =
      elim (nat_eq k e.0) as
      (λ (b : Bool). is_some (cond b (Some e.1) (get es k)) ≡ true → length (cond b es (e ∷ remove_entry (nat_eq k) es)) + 1
      ≡ suc (length es)) [
        | true ↦ λ _. omega arith
        | false ↦ λ rest. let fewer = length_removed es k rest in omega arith
      ] some

  -- a serial that is not there is not taken out
  pub remove_none : (q : ℕ) (es : List (ℕ × V)) → get es q ≡ None → remove_entry (nat_eq q) es ≡ es
  remove_none q [] none = refl
  remove_none q (e ∷ es) none =
      elim (nat_eq q e.0) as
      (λ (b : Bool). cond b (Some e.1) (get es q) ≡ None → cond b es (e ∷ remove_entry (nat_eq q) es) ≡ e ∷ es) [
        | true ↦ λ some. absurd (let no : ⊥ = cc in no)
        | false ↦ λ rest. ap (λ (fs : List (ℕ × V)). e ∷ fs) (remove_none q es rest)
      ] none

  -- a second pair has a value at another serial
  second : (e : ℕ × V) (es : List (ℕ × V)) (first : ℕ × V) (fs : List (ℕ × V)) (k : ℕ) → IsRising (e ∷ es) → e.0 ≡ k
      → ((q : ℕ) → q ≢ k → get (e ∷ es) q ≡ None) → es ≡ first ∷ fs → ⊥
  second e es first fs k rising same others split =
      let above = subst (λ (gs : List (ℕ × V)). AllAbove e.0 (keys_of gs)) split (sorted_head nat_cmp e.0 (keys_of es) rising) in
      let less = less_from_nat_cmp e.0 first.0 above.0 in
      let apart : first.0 ≢ k = λ is. omega arith in
      let miss = ne_eqb first.0 e.0 (λ is. omega arith) in
      none-some first.1 (sym (others first.0 apart) ∙ cond-false (nat_eq first.0 e.0) (Some e.1) (get es first.0) miss
      ∙ ap (λ (gs : List (ℕ × V)). get gs first.0) split ∙ cond-true (nat_eq first.0 first.0) (Some first.1) (get fs first.0)
      (eq-eqb first.0 first.0 refl))

  -- one serial alone has a value
  pub only_pair : (es : List (ℕ × V)) (k : ℕ) (v : V) → IsRising es → get es k ≡ Some v → ((q : ℕ) → q ≢ k → get es q ≡ None)
      → es ≡ (k, v) ∷ []
  only_pair [] k v rising is others = absurd (none-some v is)
  only_pair (e ∷ es) k v rising is others = elim (cases_eq e.0 k) [
    | inl same ↦
        let hit = eq-eqb k e.0 (sym same) in
        let value : e.1 ≡ v = same_Some e.1 v (sym (cond-true (nat_eq k e.0) (Some e.1) (get es k) hit) ∙ is) in
        let rest : es ≡ [] = nothing_behind es (λ first fs split. second e es first fs k rising same others split) in
        (λ i. (same i, value i) ∷ rest i)
    | inr apart ↦ absurd (none-some e.1 (sym (others e.0 apart) ∙ cond-true (nat_eq e.0 e.0) (Some e.1) (get es e.0) (eq-eqb e.0 e.0 refl)))
  ]
    where
      nothing_behind : (fs : List (ℕ × V)) → ((first : ℕ × V) (gs : List (ℕ × V)) → fs ≡ first ∷ gs → ⊥) → fs ≡ []
      nothing_behind [] none = refl
      nothing_behind (first ∷ gs) none = absurd (none first gs refl)

  -- ---- what a change leaves at each serial

  -- the serial has w now, where `None` takes it out, and the others have what they had
  pub record Updates (old new : List (ℕ × V)) (serial : ℕ) (w : Option V) : Type 0 where
    pub here : get new serial ≡ w
    pub away : (q : ℕ) → q ≢ serial → get new q ≡ get old q

  pub updates_put : (es fs : List (ℕ × V)) (k : ℕ) (w : V) → fs ≡ insert_entry nat_cmp es k w → Updates es fs k (Some w)
  updates_put es fs k w is =
      record {
        here = ap (λ (gs : List (ℕ × V)). get gs k) is ∙ put_here es k w;
        away = λ q apart. ap (λ (gs : List
            (ℕ × V)). get gs q) is ∙ put_apart es k w q apart;
      }

  pub updates_removed : (es fs : List (ℕ × V)) (k : ℕ) → IsRising es → fs ≡ remove_entry (nat_eq k) es → Updates es fs k None
  updates_removed es fs k rising is =
      record {
        here = ap (λ (gs : List (ℕ × V)). get gs k) is ∙ removed_here es k rising;
        away = λ q apart. ap (λ (gs : List (ℕ × V)). get gs q) is ∙ removed_apart es k q rising apart;
      }

  pub updates_written : (es : List (ℕ × V)) (k : ℕ) (w : V) → IsSome (get es k) → Updates es (set_value (nat_eq k) es w) k (Some w)
  updates_written es k w some = record { here = written_here es k w some; away = λ q apart. written_apart es k q w some apart }
