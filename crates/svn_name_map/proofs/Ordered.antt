-- Pairs in order of their names: a name among the pairs before it and those after it.
use Rattle.std.proofs.Common.{◌≡◌, ℕ, zero, suc, Bool, true, false, cond, List, [], ◌∷◌, ◌++◌, take, drop, set, refl, sym, ap, ◌∙◌}
use Rattle.std.proofs.Common.{None, Some, subst}
use Rattle.std.specs.Prelude.{slice_get}
use Rattle.std.specs.List.{AllByRecursion, insert, remove, zip}
use Rattle.std.specs.List.Sorted.{IsStrictlySortedBy}
use Rattle.std.specs.Map.{keys_of, values_of, remove_entry}
use Rattle.std.specs.BTreeMap.{is_at, insert_entry}
use Rattle.std.specs.Ordering.{is_eq, is_gt, match_ordering, ordering_reverse}
use Rattle.std.specs.declared.cmp.Ordering.{Ordering}
use Rattle.std.specs.declared.cmp.Ordering.TheVariants.{Less, Equal, Greater}
use Rattle.std.proofs.lemmas.Cmp.{nat_list_cmp_total}
use Rattle.std.proofs.lemmas.List.{take-append-drop}
use Rattle.svn_lists.proofs.Entries.{all_keys_left, all_keys_right}
use Rattle.svn_lists.proofs.Sorted.{above_all_from}
use Rattle.svn_types.specs.Names.{name_cmp}
use Rattle.svn_types.specs.Pairs.{InNameOrder, value_of}
use Rattle.svn_types.proofs.NameLemmas.{Name, same_name, name_cmp-same}
use Rattle.svn_name_map.specs.Runs.{IsBelow, IsAbove, IsPlaceFor}

-- a name after another compares so from the other side
pub behind : (q name : Name) → name_cmp q name ≡ Less → name_cmp name q ≡ Greater
behind q name less = nat_list_cmp_total.antisymm name q ∙ ap ordering_reverse less

-- a name in order that is after another
below_found : (k name : Name) (ks : List Name) (i : ℕ) → AllByRecursion (λ y. name_cmp k y ≡ Less) ks → slice_get ks i ≡ Some name
    → name_cmp name k ≡ Greater
below_found k name [] i all found = let none : None ≡ Some name = found in cc
below_found k name (y ∷ ks) zero all found = (let same : y ≡ name = cc in behind k name (subst (λ z. name_cmp k z ≡ Less) same all.0))
below_found k name (y ∷ ks) (suc i) all found = below_found k name ks i all.1 found

module _ {V : Type 0} where
  -- ---- before and after a list

  pub none_above : (name : Name) (es : List (Name × V)) → IsAbove name es → value_of es name ≡ None
  none_above name [] above = refl
  none_above name (e ∷ es) above =
      ap (λ o. cond (is_eq o) (Some e.1) (value_of es name)) above.0 ∙ none_above name es above.1

  pub value_behind : (name : Name) (xs ys : List (Name × V)) → IsBelow name xs → value_of (xs ++ ys) name ≡ value_of ys name
  value_behind name [] ys below = refl
  value_behind name (x ∷ xs) ys below =
      ap (λ o. cond (is_eq o) (Some x.1) (value_of (xs ++ ys) name)) (behind x.0 name below.0) ∙ value_behind name xs ys below.1

  pub value_before : (name : Name) (ys zs : List (Name × V)) → IsAbove name zs → value_of (ys ++ zs) name ≡ value_of ys name
  value_before name [] zs above = none_above name zs above
  value_before name (y ∷ ys) zs above =
      ap (λ v. cond (is_eq (name_cmp name y.0)) (Some y.1) v) (value_before name ys zs above)

  pub put_behind : (name : Name) (v : V) (xs ys : List (Name × V)) → IsBelow name xs
      → insert_entry name_cmp (xs ++ ys) name v ≡ xs ++ insert_entry name_cmp ys name v
  put_behind name v [] ys below = refl
  put_behind name v (x ∷ xs) ys below =
      ap (λ o. match_ordering o ((name, v) ∷ x ∷ xs ++ ys) ((x.0, v) ∷ xs ++ ys) (x ∷ insert_entry name_cmp (xs ++ ys) name v))
      (behind x.0 name below.0)
      ∙ ap (λ es. x ∷ es) (put_behind name v xs ys below.1)

  -- before all of a list, a pair is put in at its beginning
  pub put_first : (name : Name) (v : V) (zs : List (Name × V)) → IsAbove name zs → insert_entry name_cmp zs name v ≡ (name, v) ∷ zs
  put_first name v [] above = refl
  put_first name v (z ∷ zs) above =
      ap (λ o. match_ordering o ((name, v) ∷ z ∷ zs) ((z.0, v) ∷ zs) (z ∷ insert_entry name_cmp zs name v)) above.0

  pub put_before : (name : Name) (v : V) (ys zs : List (Name × V)) → IsAbove name zs
      → insert_entry name_cmp (ys ++ zs) name v ≡ insert_entry name_cmp ys name v ++ zs
  put_before name v [] zs above = put_first name v zs above
  put_before name v (y ∷ ys) zs above = by (name_cmp name y.0) (put_before name v ys zs above)
    where
      by : (o : Ordering) → insert_entry name_cmp (ys ++ zs) name v ≡ insert_entry name_cmp ys name v ++ zs
          → match_ordering o ((name, v) ∷ y ∷ ys ++ zs) ((y.0, v) ∷ ys ++ zs) (y ∷ insert_entry name_cmp (ys ++ zs) name v)
          ≡ match_ordering o ((name, v) ∷ y ∷ ys) ((y.0, v) ∷ ys) (y ∷ insert_entry name_cmp ys name v) ++ zs
      by Less rest = refl
      by Equal rest = refl
      by Greater rest = ap (λ es. y ∷ es) rest

  pub gone_behind : (name : Name) (xs ys : List (Name × V)) → IsBelow name xs
      → remove_entry (is_at (name_cmp name)) (xs ++ ys) ≡ xs ++ remove_entry (is_at (name_cmp name)) ys
  gone_behind name [] ys below = refl
  gone_behind name (x ∷ xs) ys below =
      ap (λ o. cond (is_eq o) (xs ++ ys) (x ∷ remove_entry (is_at (name_cmp name)) (xs ++ ys))) (behind x.0 name below.0)
      ∙ ap (λ es. x ∷ es) (gone_behind name xs ys below.1)

  pub gone_nowhere : (name : Name) (zs : List (Name × V)) → IsAbove name zs → remove_entry (is_at (name_cmp name)) zs ≡ zs
  gone_nowhere name [] above = refl
  gone_nowhere name (z ∷ zs) above =
      ap (λ o. cond (is_eq o) zs (z ∷ remove_entry (is_at (name_cmp name)) zs)) above.0
      ∙ ap (λ es. z ∷ es) (gone_nowhere name zs above.1)

  pub gone_before : (name : Name) (ys zs : List (Name × V)) → IsAbove name zs
      → remove_entry (is_at (name_cmp name)) (ys ++ zs) ≡ remove_entry (is_at (name_cmp name)) ys ++ zs
  gone_before name [] zs above = gone_nowhere name zs above
  gone_before name (y ∷ ys) zs above = by (is_at (name_cmp name) y.0) (gone_before name ys zs above)
    where
      by : (b : Bool) → remove_entry (is_at (name_cmp name)) (ys ++ zs) ≡ remove_entry (is_at (name_cmp name)) ys ++ zs
          → cond b (ys ++ zs) (y ∷ remove_entry (is_at (name_cmp name)) (ys ++ zs))
          ≡ cond b ys (y ∷ remove_entry (is_at (name_cmp name)) ys) ++ zs
      by true rest = refl
      by false rest = ap (λ es. y ∷ es) rest

  -- ---- between two lists

  pub value_between : (name : Name) (xs ys zs : List (Name × V)) → IsBelow name xs → IsAbove name zs
      → value_of (xs ++ (ys ++ zs)) name ≡ value_of ys name
  value_between name xs ys zs below above = value_behind name xs (ys ++ zs) below ∙ value_before name ys zs above

  pub put_between : (name : Name) (v : V) (xs ys zs : List (Name × V)) → IsBelow name xs → IsAbove name zs
      → insert_entry name_cmp (xs ++ (ys ++ zs)) name v ≡ xs ++ (insert_entry name_cmp ys name v ++ zs)
  put_between name v xs ys zs below above =
      put_behind name v xs (ys ++ zs) below ∙ ap (λ es. xs ++ es) (put_before name v ys zs above)

  pub gone_between : (name : Name) (xs ys zs : List (Name × V)) → IsBelow name xs → IsAbove name zs
      → remove_entry (is_at (name_cmp name)) (xs ++ (ys ++ zs)) ≡ xs ++ (remove_entry (is_at (name_cmp name)) ys ++ zs)
  gone_between name xs ys zs below above =
      gone_behind name xs (ys ++ zs) below ∙ ap (λ es. xs ++ es) (gone_before name ys zs above)

  -- ---- at a place

  pub none_at : (name : Name) (es : List (Name × V)) (i : ℕ) → IsPlaceFor es name i → value_of es name ≡ None
  none_at name es i place =
      ap (λ (l : List (Name × V)). value_of l name) (sym (take-append-drop i es))
      ∙ value_behind name (take i es) (drop i es) place.1 ∙ none_above name (drop i es) place.2

  pub put_at : (name : Name) (v : V) (es : List (Name × V)) (i : ℕ) → IsPlaceFor es name i
      → insert_entry name_cmp es name v ≡ insert es i (name, v)
  put_at name v es i place =
      ap (λ (l : List (Name × V)). insert_entry name_cmp l name v) (sym (take-append-drop i es))
      ∙ put_behind name v (take i es) (drop i es) place.1
      ∙ ap (λ (l : List (Name × V)). take i es ++ l) (put_first name v (drop i es) place.2)

  pub gone_at_none : (name : Name) (es : List (Name × V)) (i : ℕ) → IsPlaceFor es name i
      → remove_entry (is_at (name_cmp name)) es ≡ es
  gone_at_none name es i place =
      ap (λ (l : List (Name × V)). remove_entry (is_at (name_cmp name)) l) (sym (take-append-drop i es))
      ∙ gone_behind name (take i es) (drop i es) place.1
      ∙ ap (λ (l : List (Name × V)). take i es ++ l) (gone_nowhere name (drop i es) place.2)
      ∙ take-append-drop i es

  pub value_found : (name : Name) (v : V) (es : List (Name × V)) (i : ℕ) → InNameOrder es → slice_get (keys_of es) i ≡ Some name
      → slice_get (values_of es) i ≡ Some v → value_of es name ≡ Some v
  unfolding IsStrictlySortedBy
  value_found name v [] i order found value = let none : None ≡ Some v = value in cc
  value_found name v (e ∷ es) zero order found value =
      (let same : e.0 ≡ name = cc in
      let is : e.1 ≡ v = cc in
      ap (λ o. cond (is_eq o) (Some e.1) (value_of es name)) (subst (λ k. name_cmp name k ≡ Equal) (sym same) (name_cmp-same name))
      ∙ ap Some is)
  value_found name v (e ∷ es) (suc i) order found value =
      ap (λ o. cond (is_eq o) (Some e.1) (value_of es name)) (below_found e.0 name (keys_of es) i order.0 found)
      ∙ value_found name v es i order.1 found value

  pub put_found : (name : Name) (v : V) (es : List (Name × V)) (i : ℕ) → InNameOrder es → slice_get (keys_of es) i ≡ Some name
      → zip (keys_of es) (set (values_of es) i v) ≡ insert_entry name_cmp es name v
  unfolding IsStrictlySortedBy
  put_found name v [] i order found = let none : None ≡ Some name = found in cc
  put_found name v (e ∷ es) zero order found =
      (let same : e.0 ≡ name = cc in
      ap (λ l. (e.0, v) ∷ l) (zip_pairs es)
      ∙ sym (ap (λ o. match_ordering o ((name, v) ∷ e ∷ es) ((e.0, v) ∷ es) (e ∷ insert_entry name_cmp es name v))
      (subst (λ k. name_cmp name k ≡ Equal) (sym same) (name_cmp-same name))))
    where
      zip_pairs : (l : List (Name × V)) → zip (keys_of l) (values_of l) ≡ l
      zip_pairs [] = refl
      zip_pairs (p ∷ l) = ap (λ m. p ∷ m) (zip_pairs l)
  put_found name v (e ∷ es) (suc i) order found =
      ap (λ l. e ∷ l) (put_found name v es i order.1 found)
      ∙ sym (ap (λ o. match_ordering o ((name, v) ∷ e ∷ es) ((e.0, v) ∷ es) (e ∷ insert_entry name_cmp es name v))
      (below_found e.0 name (keys_of es) i order.0 found))

  pub gone_found : (name : Name) (es : List (Name × V)) (i : ℕ) → InNameOrder es → slice_get (keys_of es) i ≡ Some name
      → remove es i ≡ remove_entry (is_at (name_cmp name)) es
  unfolding IsStrictlySortedBy
  gone_found name [] i order found = let none : None ≡ Some name = found in cc
  gone_found name (e ∷ es) zero order found =
      (let same : e.0 ≡ name = cc in
      sym (ap (λ o. cond (is_eq o) es (e ∷ remove_entry (is_at (name_cmp name)) es))
      (subst (λ k. name_cmp name k ≡ Equal) (sym same) (name_cmp-same name))))
  gone_found name (e ∷ es) (suc i) order found =
      ap (λ l. e ∷ l) (gone_found name es i order.1 found)
      ∙ sym (ap (λ o. cond (is_eq o) es (e ∷ remove_entry (is_at (name_cmp name)) es)) (below_found e.0 name (keys_of es) i order.0 found))

  -- ---- parts of a list in order

  pub in_order-behind : (xs ys : List (Name × V)) → InNameOrder (xs ++ ys) → InNameOrder ys
  unfolding IsStrictlySortedBy
  in_order-behind [] ys order = order
  in_order-behind (x ∷ xs) ys order = in_order-behind xs ys order.1

  pub in_order-before : (xs ys : List (Name × V)) → InNameOrder (xs ++ ys) → InNameOrder xs
  unfolding IsStrictlySortedBy
  in_order-before [] ys order = tt
  in_order-before (x ∷ xs) ys order = (all_keys_left (λ y. name_cmp x.0 y ≡ Less) xs ys order.0, in_order-before xs ys order.1)

  -- what is before a list that doesn't begin after a name
  pub below_from : (name : Name) (xs ys : List (Name × V)) (q : Name) → InNameOrder (xs ++ ys) → slice_get (keys_of ys) 0 ≡ Some q
      → is_gt (name_cmp q name) ≡ false → IsBelow name xs
  unfolding IsStrictlySortedBy
  below_from name [] ys q order first not_behind = tt
  below_from name (x ∷ xs) ys q order first not_behind =
      (step (name_cmp q name) refl not_behind, below_from name xs ys q order.1 first not_behind)
    where
      less : (l : List (Name × V)) → AllByRecursion (λ y. name_cmp x.0 y ≡ Less) (keys_of l) → slice_get (keys_of l) 0 ≡ Some q
          → name_cmp x.0 q ≡ Less
      less [] all is = let none : None ≡ Some q = is in cc
      less (y ∷ l) all is = (let same : y.0 ≡ q = cc in subst (λ z. name_cmp x.0 z ≡ Less) same all.0)

      under : name_cmp x.0 q ≡ Less
      under = less ys (all_keys_right (λ y. name_cmp x.0 y ≡ Less) xs ys order.0) first

      step : (o : Ordering) → name_cmp q name ≡ o → is_gt o ≡ false → name_cmp x.0 name ≡ Less
      step Less is h = nat_list_cmp_total.trans x.0 q name under is
      step Equal is h = subst (λ z. name_cmp x.0 z ≡ Less) (same_name q name is) under
      step Greater is h = let clash : true ≡ false = h in cc

  -- a list that begins after a name
  pub above_from : (name : Name) (es : List (Name × V)) (q : Name) → InNameOrder es → slice_get (keys_of es) 0 ≡ Some q
      → is_gt (name_cmp q name) ≡ true → IsAbove name es
  unfolding IsStrictlySortedBy
  above_from name [] q order first is_behind = tt
  above_from name (e ∷ es) q order first is_behind =
      (let same : e.0 ≡ q = cc in
      let less = step (name_cmp q name) refl is_behind in
      let less : name_cmp name e.0 ≡ Less = subst (λ z. name_cmp name z ≡ Less) (sym same) less in
      (less, above_all_from nat_list_cmp_total name e.0 (keys_of es) less order.0))
    where
      step : (o : Ordering) → name_cmp q name ≡ o → is_gt o ≡ true → name_cmp name q ≡ Less
      step Less is h = let clash : false ≡ true = h in cc
      step Equal is h = let clash : false ≡ true = h in cc
      step Greater is h = nat_list_cmp_total.antisymm name q ∙ ap ordering_reverse is
