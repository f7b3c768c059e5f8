-- The pairs of runs, one run after the other, around one of the runs; and the run for a name.
use Rattle.std.proofs.Common.{◌≡◌, ℕ, zero, suc, ◌<◌, true, false, List, [], ◌∷◌, ◌++◌, length, take, drop, set, get_or, refl, sym, ap}
use Rattle.std.proofs.Common.{subst, ◌∙◌, arith}
use Rattle.std.proofs.Common.{◌+◌, Some, None, append_assoc}
use Rattle.std.specs.Prelude.{slice_get}
use Rattle.std.specs.List.{insert, remove, zip}
use Rattle.std.specs.Map.{keys_of, values_of, remove_entry}
use Rattle.std.specs.BTreeMap.{is_at, insert_entry}
use Rattle.std.specs.Ordering.{is_gt}
use Rattle.std.proofs.lemmas.List.{take-append-drop, get_or_read}
use Rattle.std.proofs.lemmas.List.Concat.{flat_map-append}
use Rattle.svn_lists.proofs.Entries.{first_key}
use Rattle.svn_types.specs.Names.{name_cmp}
use Rattle.svn_types.specs.Pairs.{InNameOrder, value_of}
use Rattle.svn_types.proofs.NameLemmas.{Name}
use Rattle.svn_name_map.specs.Runs.{joined, IsBelow, IsAbove, IsRunFor, IsFoundAt, IsPlaceFor}
use Rattle.svn_name_map.proofs.Ordered.{in_order-before, in_order-behind, below_from, above_from, value_between, put_between, gone_between}
use Rattle.svn_name_map.proofs.Ordered.{value_found, put_found, gone_found, none_at, gone_at_none}

module _ {V : Type 0} where
  -- ---- around one run

  pub joined-append : (xs ys : List (List (Name × V))) → joined (xs ++ ys) ≡ joined xs ++ joined ys
  joined-append xs ys = flat_map-append (λ r. r) xs ys

  pub parted : (runs : List (List (Name × V))) (m : ℕ) → joined runs ≡ joined (take m runs) ++ joined (drop m runs)
  parted runs m = ap joined (sym (take-append-drop m runs)) ∙ joined-append (take m runs) (drop m runs)

  pub from_run : (runs : List (List (Name × V))) (m : ℕ) → m < length runs
      → joined (drop m runs) ≡ get_or runs m [] ++ joined (drop (suc m) runs)
  from_run [] m within = absurd (omega (arith, within))
  from_run (r ∷ runs) zero within = refl
  from_run (r ∷ runs) (suc m) within = from_run runs m (omega (arith, within))

  pub around : (runs : List (List (Name × V))) (m : ℕ) → m < length runs
      → joined runs ≡ joined (take m runs) ++ (get_or runs m [] ++ joined (drop (suc m) runs))
  around runs m within = parted runs m ∙ ap (λ l. joined (take m runs) ++ l) (from_run runs m within)

  -- the same with the run that was read there
  pub from_run_read : (runs : List (List (Name × V))) (m : ℕ) (r : List (Name × V)) → m < length runs → r ≡ get_or runs m r
      → joined (drop m runs) ≡ r ++ joined (drop (suc m) runs)
  from_run_read runs m r within is =
      from_run runs m within ∙ ap (λ l. l ++ joined (drop (suc m) runs)) (sym (get_or_read runs m r within is []))

  pub around_read : (runs : List (List (Name × V))) (m : ℕ) (r : List (Name × V)) → m < length runs → r ≡ get_or runs m r
      → joined runs ≡ joined (take m runs) ++ (r ++ joined (drop (suc m) runs))
  around_read runs m r within is = parted runs m ∙ ap (λ l. joined (take m runs) ++ l) (from_run_read runs m r within is)

  pub around_set : (runs : List (List (Name × V))) (m : ℕ) (r : List (Name × V)) → m < length runs
      → joined (set runs m r) ≡ joined (take m runs) ++ (r ++ joined (drop (suc m) runs))
  around_set [] m r within = absurd (omega (arith, within))
  around_set (s ∷ runs) zero r within = refl
  around_set (s ∷ runs) (suc m) r within =
      ap (λ l. s ++ l) (around_set runs m r (omega (arith, within)))
      ∙ sym (append_assoc s (joined (take m runs)) (r ++ joined (drop (suc m) runs)))

  pub around_insert : (runs : List (List (Name × V))) (m : ℕ) (r : List (Name × V))
      → joined (insert runs m r) ≡ joined (take m runs) ++ (r ++ joined (drop m runs))
  around_insert runs m r = joined-append (take m runs) (r ∷ drop m runs)

  pub around_remove : (runs : List (List (Name × V))) (m : ℕ)
      → joined (remove runs m) ≡ joined (take m runs) ++ joined (drop (suc m) runs)
  around_remove runs m = joined-append (take m runs) (drop (suc m) runs)

  -- ---- in order

  pub order_from : (runs : List (List (Name × V))) (m : ℕ) → InNameOrder (joined runs) → InNameOrder (joined (drop m runs))
  order_from runs m order =
      in_order-behind (joined (take m runs)) (joined (drop m runs)) (subst (λ (es : List (Name × V)). InNameOrder es) (parted runs m) order)

  pub run_in_order : (runs : List (List (Name × V))) (m : ℕ) → m < length runs → InNameOrder (joined runs) → InNameOrder (get_or runs m [])
  run_in_order runs m within order =
      in_order-before (get_or runs m []) (joined (drop (suc m) runs))
      (subst (λ (es : List (Name × V)). InNameOrder es) (from_run runs m within) (order_from runs m order))

  -- ---- the run for a name

  pub run_not_behind : (runs : List (List (Name × V))) (name : Name) (m : ℕ) (r : List (Name × V)) → r ≡ get_or runs m r → InNameOrder (joined runs) → m < length runs
      → 0 < length r → ((q : Name) → slice_get (keys_of r) 0 ≡ Some q → false ≡ is_gt (name_cmp q name))
      → IsBelow name (joined (take m runs))
  run_not_behind runs name m r is order within some first =
      let q = first_key r (joined (drop (suc m) runs)) some in
      below_from name (joined (take m runs)) (r ++ joined (drop (suc m) runs)) q.0
      (subst (λ (es : List (Name × V)). InNameOrder es) (around_read runs m r within is) order) q.2 (sym (first q.0 q.1))

  pub run_behind : (runs : List (List (Name × V))) (name : Name) (m : ℕ) (r : List (Name × V)) → r ≡ get_or runs m r → InNameOrder (joined runs) → m < length runs
      → 0 < length r → ((q : Name) → slice_get (keys_of r) 0 ≡ Some q → true ≡ is_gt (name_cmp q name))
      → IsAbove name (joined (drop m runs))
  run_behind runs name m r is order within some first =
      let q = first_key r (joined (drop (suc m) runs)) some in
      subst (λ (es : List (Name × V)). IsAbove name es) (sym (from_run_read runs m r within is))
      (above_from name (r ++ joined (drop (suc m) runs)) q.0
      (subst (λ (es : List (Name × V)). InNameOrder es) (from_run_read runs m r within is) (order_from runs m order)) q.2 (sym (first q.0 q.1)))

  -- after the last run there is nothing
  pub above_none : (name : Name) (runs : List (List (Name × V))) → IsAbove name (joined (drop (length runs) runs))
  above_none name [] = tt
  above_none name (r ∷ runs) = above_none name runs

  -- ---- a name in its run

  module _ (runs : List (List (Name × V))) (name : Name) (m : ℕ) (for_name : IsRunFor runs name m) where
    pub value_in_run : value_of (joined runs) name ≡ value_of (get_or runs m []) name
    value_in_run =
        ap (λ (es : List (Name × V)). value_of es name) (around runs m for_name.0)
        ∙ value_between name (joined (take m runs)) (get_or runs m []) (joined (drop (suc m) runs)) for_name.1 for_name.2

    pub put_in_run : (v : V) → joined (set runs m (insert_entry name_cmp (get_or runs m []) name v)) ≡ insert_entry name_cmp (joined runs) name v
    put_in_run v =
        around_set runs m (insert_entry name_cmp (get_or runs m []) name v) for_name.0
        ∙ sym (put_between name v (joined (take m runs)) (get_or runs m []) (joined (drop (suc m) runs)) for_name.1 for_name.2)
        ∙ sym (ap (λ (es : List (Name × V)). insert_entry name_cmp es name v) (around runs m for_name.0))

    -- the run in two parts
    pub put_in_two : (v : V) (a b : List (Name × V)) → a ++ b ≡ insert_entry name_cmp (get_or runs m []) name v
        → joined (take m runs) ++ (a ++ (b ++ joined (drop (suc m) runs))) ≡ insert_entry name_cmp (joined runs) name v
    put_in_two v a b is =
        ap (λ l. joined (take m runs) ++ l) (sym (append_assoc a b (joined (drop (suc m) runs))) ∙ ap (λ l. l ++ joined (drop (suc m) runs)) is)
        ∙ sym (put_between name v (joined (take m runs)) (get_or runs m []) (joined (drop (suc m) runs)) for_name.1 for_name.2)
        ∙ sym (ap (λ (es : List (Name × V)). insert_entry name_cmp es name v) (around runs m for_name.0))

    pub gone_from_run : remove_entry (is_at (name_cmp name)) (joined runs)
        ≡ joined (take m runs) ++ (remove_entry (is_at (name_cmp name)) (get_or runs m []) ++ joined (drop (suc m) runs))
    gone_from_run =
        ap (λ (es : List (Name × V)). remove_entry (is_at (name_cmp name)) es) (around runs m for_name.0)
        ∙ gone_between name (joined (take m runs)) (get_or runs m []) (joined (drop (suc m) runs)) for_name.1 for_name.2

  -- ---- a name in the run that was read

  module _ (runs : List (List (Name × V))) (name : Name) (m : ℕ) (for_name : IsRunFor runs name m) (order : InNameOrder (joined runs))
      (r : List (Name × V)) (read : r ≡ get_or runs m r) where
    at_run : r ≡ get_or runs m []
    at_run = get_or_read runs m r for_name.0 read []

    r_in_order : InNameOrder r
    r_in_order = subst (λ (es : List (Name × V)). InNameOrder es) (sym at_run) (run_in_order runs m for_name.0 order)

    pub value_read : (v : V) (i : ℕ) → IsFoundAt r name i → slice_get (values_of r) i ≡ Some v → Some v ≡ value_of (joined runs) name
    value_read v i found value =
        sym (value_in_run runs name m for_name ∙ ap (λ (es : List (Name × V)). value_of es name) (sym at_run)
        ∙ value_found name v r i r_in_order found.1 value)

    pub none_read : (i : ℕ) → IsPlaceFor r name i → None ≡ value_of (joined runs) name
    none_read i place =
        sym (value_in_run runs name m for_name ∙ ap (λ (es : List (Name × V)). value_of es name) (sym at_run)
        ∙ none_at name r i place)

    pub set_read : (v : V) (i : ℕ) → IsFoundAt r name i
        → joined (set runs m (zip (keys_of r) (set (values_of r) i v))) ≡ insert_entry name_cmp (joined runs) name v
    set_read v i found =
        ap (λ (es : List (Name × V)). joined (set runs m es))
        (put_found name v r i r_in_order found.1 ∙ ap (λ (es : List (Name × V)). insert_entry name_cmp es name v) at_run)
        ∙ put_in_run runs name m for_name v

    pub gone_read : (i : ℕ) → IsFoundAt r name i
        → joined (take m runs) ++ (remove (get_or runs m []) i ++ joined (drop (suc m) runs)) ≡ remove_entry (is_at (name_cmp name)) (joined runs)
    gone_read i found =
        ap (λ (l : List (Name × V)). joined (take m runs) ++ (l ++ joined (drop (suc m) runs)))
        (ap (λ (es : List (Name × V)). remove es i) (sym at_run) ∙ gone_found name r i r_in_order found.1
        ∙ ap (λ (es : List (Name × V)). remove_entry (is_at (name_cmp name)) es) at_run)
        ∙ sym (gone_from_run runs name m for_name)

    pub same_read : (i : ℕ) → IsPlaceFor r name i → joined runs ≡ remove_entry (is_at (name_cmp name)) (joined runs)
    same_read i place =
        around runs m for_name.0
        ∙ ap (λ (l : List (Name × V)). joined (take m runs) ++ (l ++ joined (drop (suc m) runs)))
        (sym at_run ∙ sym (gone_at_none name r i place) ∙ ap (λ (es : List (Name × V)). remove_entry (is_at (name_cmp name)) es) at_run)
        ∙ sym (gone_from_run runs name m for_name)

  -- ---- a run more

  pub joined_next : (runs : List (List (Name × V))) (m : ℕ) (b : List (Name × V)) → m < length runs
      → joined (insert runs (m + 1) b) ≡ joined (take m runs) ++ (get_or runs m [] ++ (b ++ joined (drop (suc m) runs)))
  joined_next [] m b within = absurd (omega (arith, within))
  joined_next (r ∷ runs) zero b within = refl
  joined_next (r ∷ runs) (suc m) b within =
      ap (λ l. joined (insert (r ∷ runs) l b)) (step m)
      ∙ ap (λ l. r ++ l) (joined_next runs m b (omega (arith, within)))
      ∙ sym (append_assoc r (joined (take m runs)) (get_or runs m [] ++ (b ++ joined (drop (suc m) runs))))
    where
      step : (n : ℕ) → suc n + 1 ≡ suc (n + 1)
      step n = omega arith

  pub joined_two : (runs : List (List (Name × V))) (m : ℕ) (a b : List (Name × V)) → m < length runs
      → joined (set (insert runs (m + 1) b) m a) ≡ joined (take m runs) ++ (a ++ (b ++ joined (drop (suc m) runs)))
  joined_two [] m a b within = absurd (omega (arith, within))
  joined_two (r ∷ runs) zero a b within = refl
  joined_two (r ∷ runs) (suc m) a b within =
      ap (λ l. joined (set (insert (r ∷ runs) l b) (suc m) a)) (step m)
      ∙ ap (λ l. r ++ l) (joined_two runs m a b (omega (arith, within)))
      ∙ sym (append_assoc r (joined (take m runs)) (a ++ (b ++ joined (drop (suc m) runs))))
    where
      step : (n : ℕ) → suc n + 1 ≡ suc (n + 1)
      step n = omega arith
