-- Changing properties by the changes between two lists gives the second.
use Rattle.std.proofs.Common.{◌≡◌, ℕ, Bool, true, false, ◌||◌, List, [], ◌∷◌, refl, sym, ◌∙◌, ap, true≢false, ◌⊎◌, inl, inr}
use Rattle.std.proofs.lemmas.Bool.{or_parts}
use Rattle.std.specs.Prelude.{Option, Some, None, cond, bytes_eq, filter_map}
use Rattle.std.specs.List.{cons_option}
use Rattle.std.specs.declared.cmp.Ordering.{Ordering}
use Rattle.std.specs.declared.cmp.Ordering.TheVariants.{Less, Equal, Greater}
use Rattle.std.specs.Ordering.{match_ordering}
use Rattle.std.specs.BTreeMap.{is_at, insert_entry}
use Rattle.std.specs.Map.{keys_of}
use Rattle.std.specs.Cmp.Lexicographic.{nat_list_cmp_total}
use Rattle.std.proofs.lemmas.Map.Text.{is_eq-slice_cmp}
use Rattle.svn_lists.proofs.Entries.{lookup-remove, same_entries, sorted_insert_entry, sorted_remove_entry}
use Rattle.svn_lists.proofs.Equality.{bytes_eq-same, same_bytes}
use Rattle.svn_types.specs.Names.{name_cmp}
use Rattle.svn_types.specs.Pairs.{value_of, with_value, InNameOrder}
use Rattle.svn_types.specs.Props.{is_same_value, with_changes, names_of_both, change_between, changes_between}
use Rattle.svn_types.proofs.NameLemmas.{Name, same_name, flipped, lt_apart, value_of-first, has_name}
use Rattle.svn_types.proofs.NameLemmas.{has_name-fold, no_name_no_value}

-- ---- one change

value_of-insert : (es : List (Name × List ℕ)) (n : Name) (v : List ℕ) (m : Name)
    → value_of (insert_entry name_cmp es n v) m ≡ cond (bytes_eq n m) (Some v) (value_of es m)
value_of-insert [] n v m = value_of-first (n, v) [] m
value_of-insert (e ∷ es) n v m = by (name_cmp n e.0) refl (value_of-insert es n v m)
  where
    by : (o : Ordering) → name_cmp n e.0 ≡ o → value_of (insert_entry name_cmp es n v) m ≡ cond (bytes_eq n m) (Some v) (value_of es m)
        → value_of (match_ordering o ((n, v) ∷ e ∷ es) ((e.0, v) ∷ es) (e ∷ insert_entry name_cmp es n v)) m
        ≡ cond (bytes_eq n m) (Some v) (value_of (e ∷ es) m)
    by Less c ih = value_of-first (n, v) (e ∷ es) m
    by Equal c ih =
        value_of-first (e.0, v) es m ∙ either (bytes_eq n m) (bytes_eq e.0 m) (ap (λ x. bytes_eq x m) (same_name n e.0 c))
        ∙ ap (λ x. cond (bytes_eq n m) (Some v) x) (sym (value_of-first e es m))
      where
        either : (a b : Bool) → a ≡ b → cond b (Some v) (value_of es m) ≡ cond a (Some v) (cond b (Some e.1) (value_of es m))
        either true true q = refl
        either false false q = refl
        either false true q = absurd (true≢false (sym q))
        either true false q = absurd (true≢false q)
    by Greater c ih =
        value_of-first e (insert_entry name_cmp es n v) m
        ∙ ap (λ x. cond (bytes_eq e.0 m) (Some e.1) x) ih ∙ either (bytes_eq e.0 m) (bytes_eq n m) refl refl
        ∙ ap (λ x. cond (bytes_eq n m) (Some v) x) (sym (value_of-first e es m))
      where
        either : (a b : Bool) → bytes_eq e.0 m ≡ a → bytes_eq n m ≡ b
            → cond a (Some e.1) (cond b (Some v) (value_of es m)) ≡ cond b (Some v) (cond a (Some e.1) (value_of es m))
        either false true p q = refl
        either false false p q = refl
        either true false p q = refl
        either true true p q =
            let one = same_bytes e.0 m p ∙ sym (same_bytes n m q) in
            absurd (true≢false (sym (bytes_eq-same e.0) ∙ ap (λ x. bytes_eq e.0 x) one ∙ lt_apart e.0 n (flipped n e.0 c)))

value_of-with_value : (ps : List (Name × List ℕ)) (n : Name) (v : Option (List ℕ)) (m : Name) → InNameOrder ps
    → value_of (with_value ps n v) m ≡ cond (bytes_eq n m) v (value_of ps m)
value_of-with_value ps n None m k =
    lookup-remove nat_list_cmp_total same_name n m ps k ∙ ap (λ b. cond b None (value_of ps m)) (is_eq-slice_cmp n m)
value_of-with_value ps n (Some v) m k = value_of-insert ps n v m

in_order-with_value : (ps : List (Name × List ℕ)) (n : Name) (v : Option (List ℕ)) → InNameOrder ps → InNameOrder (with_value ps n v)
in_order-with_value ps n None k = sorted_remove_entry _ (is_at (name_cmp n)) ps k
in_order-with_value ps n (Some v) k = sorted_insert_entry nat_list_cmp_total n v ps k

-- ---- all changes

same_option : (a b : Option (List ℕ)) → is_same_value a b ≡ true → a ≡ b
same_option None None h = refl
same_option None (Some y) h = absurd (true≢false (sym h))
same_option (Some x) None h = absurd (true≢false (sym h))
same_option (Some x) (Some y) h = ap Some (same_bytes x y h)

-- every value is an old or a new one
abbrev Between : List (List ℕ × List ℕ) → List (List ℕ × List ℕ) → List (List ℕ × List ℕ) → Type 0
Between old new ps = (m : Name) → (value_of ps m ≡ value_of old m) ⊎ (value_of ps m ≡ value_of new m)

abbrev Changed : List (List ℕ × List ℕ) → List (List ℕ × List ℕ) → List (List ℕ) → List (List ℕ × List ℕ) → List (List ℕ × List ℕ) → Type 0
Changed old new ns ps qs = InNameOrder qs × ((m : Name) → value_of qs m ≡ cond (has_name ns m) (value_of new m) (value_of ps m))

values_after : (old new : List (List ℕ × List ℕ)) (ns : List (List ℕ)) (ps : List (List ℕ × List ℕ)) → InNameOrder ps → Between old new ps
    → Changed old new ns ps (with_changes ps (filter_map (change_between old new) ns))
values_after old new [] ps k b = (k, λ m. refl)
values_after old new (n ∷ ns) ps k b =
    by (is_same_value (value_of old n) (value_of new n)) refl (values_after old new ns ps k b)
    (values_after old new ns (with_value ps n (value_of new n)) (in_order-with_value ps n (value_of new n) k) still)
  where
    changed : (m : Name) → value_of (with_value ps n (value_of new n)) m ≡ cond (bytes_eq n m) (value_of new n) (value_of ps m)
    changed m = value_of-with_value ps n (value_of new n) m k

    still : Between old new (with_value ps n (value_of new n))
    still m = at (bytes_eq n m) refl (b m)
      where
        at : (x : Bool) → bytes_eq n m ≡ x → (value_of ps m ≡ value_of old m) ⊎ (value_of ps m ≡ value_of new m)
            → (value_of (with_value ps n (value_of new n)) m ≡ value_of old m)
            ⊎ (value_of (with_value ps n (value_of new n)) m ≡ value_of new m)
        at true q u = inr (changed m ∙ ap (λ y. cond y (value_of new n) (value_of ps m)) q ∙ ap (value_of new) (same_bytes n m q))
        at false q (inl u) = inl (changed m ∙ ap (λ y. cond y (value_of new n) (value_of ps m)) q ∙ u)
        at false q (inr u) = inr (changed m ∙ ap (λ y. cond y (value_of new n) (value_of ps m)) q ∙ u)

    by : (x : Bool) → is_same_value (value_of old n) (value_of new n) ≡ x
        → Changed old new ns ps (with_changes ps (filter_map (change_between old new) ns))
        → Changed old new ns (with_value ps n (value_of new n))
        (with_changes (with_value ps n (value_of new n)) (filter_map (change_between old new) ns))
        → Changed old new (n ∷ ns) ps
        (with_changes ps (cons_option (cond x None (Some (n, value_of new n))) (filter_map (change_between old new) ns)))
    by true e u v = (u.0, λ m. u.1 m ∙ at m (bytes_eq n m) (has_name ns m) refl (b m))
      where
        at : (m : Name) (x y : Bool) → bytes_eq n m ≡ x → (value_of ps m ≡ value_of old m) ⊎ (value_of ps m ≡ value_of new m)
            → cond y (value_of new m) (value_of ps m) ≡ cond (x || y) (value_of new m) (value_of ps m)
        at m true true q w = refl
        at m true false q (inr w) = w
        at m true false q (inl w) =
            w ∙ ap (value_of old) (sym (same_bytes n m q)) ∙ same_option (value_of old n) (value_of new n) e
            ∙ ap (value_of new) (same_bytes n m q)
        at m false y q w = refl
    by false e u v =
        (v.0, λ m. v.1 m ∙ ap (λ z. cond (has_name ns m) (value_of new m) z) (changed m) ∙ at m (bytes_eq n m) (has_name ns m) refl)
      where
        at : (m : Name) (x y : Bool) → bytes_eq n m ≡ x
            → cond y (value_of new m) (cond x (value_of new n) (value_of ps m)) ≡ cond (x || y) (value_of new m) (value_of ps m)
        at m true true q = refl
        at m true false q = ap (value_of new) (same_bytes n m q)
        at m false y q = refl

pub with_changes-between : (old new : List (List ℕ × List ℕ)) → InNameOrder old → InNameOrder new
    → with_changes old (changes_between old new) ≡ new
with_changes-between old new h k =
    same_entries nat_list_cmp_total same_name (with_changes old (changes_between old new)) new after.0 k
    (λ m. after.1 m ∙ at m (has_name names m) refl)
  where
    names : List (List ℕ)
    names = names_of_both old new

    after : Changed old new names old (with_changes old (changes_between old new))
    after = values_after old new names old h (λ m. inl refl)

    at : (m : Name) (x : Bool) → has_name names m ≡ x → cond x (value_of new m) (value_of old m) ≡ value_of new m
    at m true q = refl
    at m false q =
        let parts =
        or_parts (has_name (keys_of old) m) (has_name (keys_of new) m) (sym (has_name-fold (keys_of new) (keys_of old) m) ∙ q) in
        no_name_no_value old m parts.0 ∙ sym (no_name_no_value new m parts.1)
