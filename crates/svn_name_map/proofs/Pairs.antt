-- Pairs after a change of one name: they stay in order, and their names and values are those that were there or the new one.
use Rattle.std.proofs.Common.{◌≡◌, ℕ, Bool, List, [], get_or, refl, Option, Some, None}
use Rattle.std.specs.List.{All, slice_get}
use Rattle.std.specs.List.Sorted.{IsStrictlySortedBy}
use Rattle.std.specs.Map.{keys_of, values_of, remove_entry}
use Rattle.std.specs.BTreeMap.{is_at, insert_entry}
use Rattle.std.specs.Option.{IfSome}
use Rattle.std.specs.Cmp.{eq_by_cmp_equiv}
use Rattle.std.proofs.lemmas.Cmp.{nat_list_cmp_total}
use Rattle.std.proofs.lemmas.Option.{slice_get-get_or}
use Rattle.std.proofs.lemmas.Map.Keys.{IsDistinct-from_sorted}
use Rattle.std.proofs.lemmas.Map.Entries.{lookup_from_place}
use Rattle.std.proofs.lemmas.Map.Views.{All-keys-insert_entry, All-values-insert_entry, All-map-remove_entry, All-values_from_lookup}
use Rattle.svn_lists.proofs.Entries.{sorted_insert_entry, sorted_remove_entry}
use Rattle.svn_types.specs.Names.{name_cmp}
use Rattle.svn_types.specs.Pairs.{InNameOrder, value_of, with_value}

-- ---- order

pub in_order-insert : {V : Type 0} (k : List ℕ) (v : V) (es : List (List ℕ × V)) → InNameOrder es → InNameOrder (insert_entry name_cmp es k v)
in_order-insert k v es s = sorted_insert_entry nat_list_cmp_total k v es s

pub in_order-remove : {V : Type 0} (test : List ℕ → Bool) (es : List (List ℕ × V)) → InNameOrder es → InNameOrder (remove_entry test es)
in_order-remove test es s = sorted_remove_entry name_cmp test es s

pub in_order-nil : (V : Type 0) → InNameOrder {V = V} []
unfolding IsStrictlySortedBy
in_order-nil V = tt

pub in_order-with_value : {V : Type 0} (es : List (List ℕ × V)) (name : List ℕ) (value : Option V) → InNameOrder es
    → InNameOrder (with_value es name value)
in_order-with_value es name None s = in_order-remove (is_at (name_cmp name)) es s
in_order-with_value es name (Some v) s = in_order-insert name v es s

-- ---- names and values

pub names-with_value : {V : Type 0} (P : List ℕ → Type 0) (es : List (List ℕ × V)) (name : List ℕ) (value : Option V) → All P (keys_of es)
    → P name → All P (keys_of (with_value es name value))
names-with_value P es name None a h = All-map-remove_entry (is_at (name_cmp name)) (λ e. e.0) P es a
names-with_value P es name (Some v) a h = All-keys-insert_entry name_cmp name v P es a h

pub values-with_value : {V : Type 0} (P : V → Type 0) (es : List (List ℕ × V)) (name : List ℕ) (value : Option V) → All P (values_of es)
    → ((v : V) → value ≡ Some v → P v) → All P (values_of (with_value es name value))
values-with_value P es name None a h = All-map-remove_entry (is_at (name_cmp name)) (λ e. e.1) P es a
values-with_value P es name (Some v) a h = All-values-insert_entry name_cmp name v P es a (h v refl)

-- ---- look-ups

-- an entry is found under its name
pub found_at_place : {V : Type 0} (es : List (List ℕ × V)) (i : ℕ) (name : List ℕ) (v : V) → InNameOrder es
    → slice_get es i ≡ Some (name, v) → value_of es name ≡ Some v
found_at_place es i name v s h =
    lookup_from_place (eq_by_cmp_equiv nat_list_cmp_total) es i name v (IsDistinct-from_sorted name_cmp (keys_of es) s) h

-- what holds of each value that is found holds of each value
pub all_values : {V : Type 0} (P : V → Type 0) (es : List (List ℕ × V)) → InNameOrder es
    → ((name : List ℕ) (v : V) → value_of es name ≡ Some v → P v) → All P (values_of es)
all_values P es s h =
    All-values_from_lookup (eq_by_cmp_equiv nat_list_cmp_total) P es (IsDistinct-from_sorted name_cmp (keys_of es) s)
    (λ q. by q (value_of es q) refl)
  where
    by : (q : List ℕ) (o : Option _) → value_of es q ≡ o → IfSome o P
    by q None e = tt
    by q (Some v) e = h q v e

pub all_found : {V : Type 0} (es : List (List ℕ × V)) → InNameOrder es → All (λ (e : List ℕ × V). value_of es e.0 ≡ Some e.1) es
all_found es s = λ i d h. (let e : List ℕ × _ = get_or es i d in found_at_place es i e.0 e.1 s (slice_get-get_or es i d h))
