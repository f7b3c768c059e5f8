-- A map's pairs after one is put in or taken out: what each name has, and how many there are.
use Rattle.std.proofs.Common.{◌≡◌, ℕ, ◌+◌, ◌-◌, ◌^◌, ◌<◌, ◌≤◌, Bool, true, false, not, cond, List, [], ◌∷◌, length, Option, None, Some}
use Rattle.std.proofs.Common.{refl, sym, ap, subst, ◌∙◌, arith}
use Rattle.std.specs.Prelude.{bytes_eq}
use Rattle.std.specs.List.Sorted.{IsStrictlySortedBy}
use Rattle.std.specs.Map.{keys_of, remove_entry}
use Rattle.std.specs.BTreeMap.{is_at, insert_entry}
use Rattle.std.specs.Cmp.{eq_by_cmp_equiv}
use Rattle.std.specs.Option.{is_some}
use Rattle.std.specs.Ordering.{is_eq, match_ordering}
use Rattle.std.specs.declared.cmp.Ordering.{Ordering}
use Rattle.std.specs.declared.cmp.Ordering.TheVariants.{Less, Equal, Greater}
use Rattle.std.proofs.lemmas.Cmp.{nat_list_cmp_total}
use Rattle.std.proofs.lemmas.Map.{lookup-remove_entry}
use Rattle.std.proofs.lemmas.Map.Keys.{IsDistinct-from_sorted}
use Rattle.svn_lists.proofs.Equality.{same_bytes}
use Rattle.svn_lists.proofs.Sorted.{above_all_from}
use Rattle.svn_types.specs.Names.{name_cmp}
use Rattle.svn_types.specs.Pairs.{InNameOrder, ChangesOnly, value_of}
use Rattle.svn_types.proofs.NameLemmas.{Name, at_name, name_cmp-same, same_name, value_of-first}
use Rattle.svn_name_map.proofs.Ordered.{none_above}
use Rattle.svn_name_map.proofs.Pairs.{in_order-nil, in_order-insert, in_order-remove}
use mir.Val.{bool_byte}

module _ {V : Type 0} where
  -- ---- what each name has

  pub changes_put : (es : List (Name × V)) (k : Name) (v : V) → ChangesOnly es (insert_entry name_cmp es k v) k (Some v)
  changes_put [] k v x = value_of-first (k, v) [] x
  changes_put (e ∷ es) k v x = by (name_cmp k e.0) refl (changes_put es k v x)
    where
      twice : (b : Bool) → bytes_eq e.0 x ≡ b → cond b (Some v) (value_of es x) ≡ cond b (Some v) (value_of (e ∷ es) x)
      twice true is = refl
      twice false is = sym (value_of-first e es x ∙ ap (λ c. cond c (Some e.1) (value_of es x)) is)

      swap : (a b : Bool) → bytes_eq e.0 x ≡ a → bytes_eq k x ≡ b → name_cmp k e.0 ≡ Greater
          → cond a (Some e.1) (cond b (Some v) (value_of es x)) ≡ cond b (Some v) (cond a (Some e.1) (value_of es x))
      swap true true is at above =
          (let same : k ≡ e.0 = same_bytes k x at ∙ sym (same_bytes e.0 x is) in
          let level : Equal ≡ Greater = sym (subst (λ z. name_cmp k z ≡ Equal) same (name_cmp-same k)) ∙ above in
          cc)
      swap true false is at above = refl
      swap false true is at above = refl
      swap false false is at above = refl

      by : (o : Ordering) → name_cmp k e.0 ≡ o
          → value_of (insert_entry name_cmp es k v) x ≡ cond (bytes_eq k x) (Some v) (value_of es x)
          → value_of (match_ordering o ((k, v) ∷ e ∷ es) ((e.0, v) ∷ es) (e ∷ insert_entry name_cmp es k v)) x
          ≡ cond (bytes_eq k x) (Some v) (value_of (e ∷ es) x)
      by Less is rest = value_of-first (k, v) (e ∷ es) x
      by Equal is rest =
          value_of-first (e.0, v) es x ∙ twice (bytes_eq e.0 x) refl
          ∙ ap (λ (q : Name). cond (bytes_eq q x) (Some v) (value_of (e ∷ es) x)) (sym (same_name k e.0 is))
      by Greater is rest =
          value_of-first e (insert_entry name_cmp es k v) x ∙ ap (λ o. cond (bytes_eq e.0 x) (Some e.1) o) rest
          ∙ swap (bytes_eq e.0 x) (bytes_eq k x) refl refl is
          ∙ ap (λ o. cond (bytes_eq k x) (Some v) o) (sym (value_of-first e es x))

  pub changes_gone : (es : List (Name × V)) (k : Name) → InNameOrder es
      → ChangesOnly es (remove_entry (is_at (name_cmp k)) es) k None
  changes_gone es k order x =
      lookup-remove_entry (eq_by_cmp_equiv nat_list_cmp_total) (is_at (name_cmp k)) one x es
      (IsDistinct-from_sorted name_cmp (keys_of es) order)
      ∙ ap (λ b. cond b None (value_of es x)) (at_name k x)
    where
      one : (y z : Name) → is_at (name_cmp k) y ≡ true → is_at (name_cmp k) z ≡ is_at (name_cmp y) z
      one y z is = ap (λ (q : Name). is_at (name_cmp q) z) (same_bytes k y (sym (at_name k y) ∙ is))

  -- to set a value and then the one before again changes nothing
  pub put_back : (es : List (Name × V)) (k : Name) (v w : V) → InNameOrder es → value_of es k ≡ Some v
      → insert_entry name_cmp (insert_entry name_cmp es k w) k v ≡ es
  unfolding IsStrictlySortedBy
  put_back [] k v w order found = let none : None ≡ Some v = found in cc
  put_back (e ∷ es) k v w order found = by (name_cmp k e.0) refl found (put_back es k v w order.1)
    where
      again : (o : Ordering) → name_cmp k e.0 ≡ o → (l : List (Name × V)) (x : V)
          → insert_entry name_cmp ((e.0, x) ∷ l) k v
          ≡ match_ordering o ((k, v) ∷ (e.0, x) ∷ l) ((e.0, v) ∷ l) ((e.0, x) ∷ insert_entry name_cmp l k v)
      again o is l x =
          ap (λ p. match_ordering p ((k, v) ∷ (e.0, x) ∷ l) ((e.0, v) ∷ l) ((e.0, x) ∷ insert_entry name_cmp l k v)) is

      by : (o : Ordering) → name_cmp k e.0 ≡ o → cond (is_eq o) (Some e.1) (value_of es k) ≡ Some v
          → (value_of es k ≡ Some v → insert_entry name_cmp (insert_entry name_cmp es k w) k v ≡ es)
          → insert_entry name_cmp (match_ordering o ((k, w) ∷ e ∷ es) ((e.0, w) ∷ es) (e ∷ insert_entry name_cmp es k w)) k v ≡ e ∷ es
      by Less is value rest =
          let none : None ≡ Some v = sym (none_above k es (above_all_from nat_list_cmp_total k e.0 (keys_of es) is order.0)) ∙ value in cc
      by Equal is value rest = let same : e.1 ≡ v = cc in again Equal is es w ∙ ap (λ (x : V). (e.0, x) ∷ es) (sym same)
      by Greater is value rest = again Greater is (insert_entry name_cmp es k w) e.1 ∙ ap (λ l. e ∷ l) (rest value)

  -- ---- how many there are

  pub length_put : (es : List (Name × V)) (k : Name) (v : V) → InNameOrder es
      → length (insert_entry name_cmp es k v) ≡ length es + bool_byte (not (is_some (value_of es k)))
  unfolding IsStrictlySortedBy
  length_put [] k v order = refl
  length_put (e ∷ es) k v order = by (name_cmp k e.0) refl (length_put es k v order.1)
    where
      by : (o : Ordering) → name_cmp k e.0 ≡ o
          → length (insert_entry name_cmp es k v) ≡ length es + bool_byte (not (is_some (value_of es k)))
          → length (match_ordering o ((k, v) ∷ e ∷ es) ((e.0, v) ∷ es) (e ∷ insert_entry name_cmp es k v))
          ≡ length (e ∷ es) + bool_byte (not (is_some (cond (is_eq o) (Some e.1) (value_of es k))))
      by Less is rest =
          (let none : value_of es k ≡ None = none_above k es (above_all_from nat_list_cmp_total k e.0 (keys_of es) is order.0) in
          let one = ap (λ o. bool_byte (not (is_some o))) none in omega (arith, one))
      by Equal is rest = omega arith
      by Greater is rest = omega (arith, rest)

  pub length_gone : (es : List (Name × V)) (k : Name)
      → length (remove_entry (is_at (name_cmp k)) es) + bool_byte (is_some (value_of es k)) ≡ length es
  length_gone [] k = refl
  length_gone (e ∷ es) k = by (is_at (name_cmp k) e.0) (length_gone es k)
    where
      by : (b : Bool) → length (remove_entry (is_at (name_cmp k)) es) + bool_byte (is_some (value_of es k)) ≡ length es
          → length (cond b es (e ∷ remove_entry (is_at (name_cmp k)) es)) + bool_byte (is_some (cond b (Some e.1) (value_of es k)))
          ≡ length (e ∷ es)
      by true rest = omega arith
      by false rest = omega (arith, rest)

  -- ---- the order and the count of a map

  abbrev pub IsCounted : List (Name × V) → ℕ → Type 0
  IsCounted es n = InNameOrder es × (n ≡ length es) × (n < 2 ^ 63)

  pub counted_none : (es : List (Name × V)) → es ≡ [] → IsCounted es 0
  counted_none es none =
      (let length : 0 ≡ length es = sym (ap length none) in
      (subst (λ (l : List (Name × V)). InNameOrder l) (sym none) (in_order-nil V), length, omega arith))

  pub counted_put : (es fs : List (Name × V)) (n : ℕ) (k : Name) (v : V) (was : Option V) (b : Bool) → IsCounted es n → n < 2 ^ 63 - 1
      → was ≡ value_of es k → is_some was ≡ not b → fs ≡ insert_entry name_cmp es k v → IsCounted fs (n + bool_byte b)
  counted_put es fs n k v was b counted room is none put =
      let more = length_put es k v counted.0 in
      let same : bool_byte (not (is_some (value_of es k))) ≡ bool_byte b =
      ap (λ o. bool_byte (not (is_some o))) (sym is) ∙ ap (λ c. bool_byte (not c)) none ∙ twice b in
      let length = ap length put in
      let small = one b in (
        subst (λ (l : List (Name × V)). InNameOrder l) (sym put) (in_order-insert k v es counted.0),
        omega (arith, counted.1, more, same, length),
        omega (arith, room, small),
      )
    where
      twice : (c : Bool) → bool_byte (not (not c)) ≡ bool_byte c
      twice true = refl
      twice false = refl

      one : (c : Bool) → bool_byte c ≤ 1
      one true = omega arith
      one false = omega arith

  pub counted_set : (es fs : List (Name × V)) (n : ℕ) (k : Name) (v : V) (was : Option V) → IsCounted es n → was ≡ value_of es k
      → ((w : V) → was ≡ Some w → fs ≡ insert_entry name_cmp es k v) → (was ≡ None → fs ≡ es) → IsCounted fs n
  counted_set es fs n k v None counted is put kept = subst (λ (l : List (Name × V)). IsCounted l n) (sym (kept refl)) counted
  counted_set es fs n k v (Some w) counted is put kept =
      let same = put w refl in
      let more = length_put es k v counted.0 in
      let none : bool_byte (not (is_some (value_of es k))) ≡ 0 = ap (λ o. bool_byte (not (is_some o))) (sym is) in
      let length = ap length same in (
        subst (λ (l : List (Name × V)). InNameOrder l) (sym same) (in_order-insert k v es counted.0),
        omega (arith, counted.1, more, none, length),
        counted.2,
      )

  pub some_gone : (es : List (Name × V)) (n : ℕ) (k : Name) (was : Option V) (b : Bool) → IsCounted es n → was ≡ value_of es k
      → b ≡ is_some was → bool_byte b ≤ n
  some_gone es n k was b counted is some =
      let gone = length_gone es k in
      let same : bool_byte (is_some (value_of es k)) ≡ bool_byte b = ap (λ o. bool_byte (is_some o)) (sym is) ∙ ap bool_byte (sym some) in
      omega (arith, counted.1, gone, same)

  pub counted_gone : (es fs : List (Name × V)) (n : ℕ) (k : Name) (was : Option V) (b : Bool) → IsCounted es n → was ≡ value_of es k
      → b ≡ is_some was → fs ≡ remove_entry (is_at (name_cmp k)) es → IsCounted fs (n - bool_byte b)
  counted_gone es fs n k was b counted is some removed =
      let gone = length_gone es k in
      let same : bool_byte (is_some (value_of es k)) ≡ bool_byte b = ap (λ o. bool_byte (is_some o)) (sym is) ∙ ap bool_byte (sym some) in
      let length = ap length removed in (
        subst (λ (l : List (Name × V)). InNameOrder l) (sym removed) (in_order-remove (is_at (name_cmp k)) es counted.0),
        omega (arith, counted.1, gone, same, length),
        omega (arith, counted.2),
      )
