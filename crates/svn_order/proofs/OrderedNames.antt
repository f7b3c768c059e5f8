-- Names in order: what is after all of them, what a search finds, and one name more.
use Rattle.std.proofs.Common.{◌≡◌, ℕ, suc, ◌-◌, ◌<◌, ◌≤◌, ◌⊎◌, inl, inr, Bool, true, false, cond, ◌||◌, List, [], ◌∷◌, ◌++◌}
use Rattle.std.proofs.Common.{length, get_or, refl, sym, ◌∙◌, ap, arith}
use Rattle.std.specs.Prelude.{bytes_eq, slice_get}
use Rattle.std.specs.List.{list_any, HoldsAt}
use Rattle.std.specs.List.Sorted.{IsSorted, IsPartitionPoint}
use Rattle.std.specs.declared.cmp.Ordering.{Ordering}
use Rattle.std.specs.declared.cmp.Ordering.TheVariants.{Less, Equal, Greater}
use Rattle.std.specs.Ordering.{is_lt, is_eq, ordering_index, ordering_reverse}
use Rattle.std.specs.BTreeMap.{is_at}
use Rattle.std.specs.BTreeSet.{BTreeSet, contains}
use Rattle.std.specs.Cmp.Lexicographic.{texts_ties, nat_list_cmp_total}
use Rattle.std.proofs.lemmas.Bool.{or_from, cases_lt}
use Rattle.std.proofs.lemmas.Option.{slice_get-get_or}
use Rattle.std.proofs.lemmas.List.Folds.{list_any_at, list_any-append}
use Rattle.std.proofs.lemmas.List.Sorted.{searchable_from_sorted}
use Rattle.std.proofs.lemmas.List.Kept.{IsSortedBy-push}
use Rattle.svn_lists.proofs.Equality.{bytes_eq-symm}
use Rattle.svn_lists.proofs.Orderings.{less_from_is_lt}
use Rattle.svn_types.specs.Names.{name_cmp}
use Rattle.svn_types.proofs.NameLemmas.{Name}
use Rattle.svn_order.specs.NameSets.{has_name, Inserts, is_behind}

-- ---- what is not among them

apart : (n y : Name) (o : Ordering) → name_cmp y n ≡ o → is_eq o ≡ false → bytes_eq n y ≡ false
apart n y o is other = bytes_eq-symm n y ∙ texts_ties y n ∙ ap is_eq is ∙ other

none : (xs : List Name) (n : Name) → ((i : ℕ) (d : Name) → i < length xs → bytes_eq n (get_or xs i d) ≡ false)
    → list_any (bytes_eq n) xs ≡ false
none [] n others = refl
none (x ∷ xs) n others =
    or_from (bytes_eq n x) (list_any (bytes_eq n) xs) (others 0 x (omega arith))
    (none xs n (λ i d inside. others (suc i) d (omega (arith, inside))))

-- the last is below a name that is after it
last_below : (xs : List Name) (n : Name) → is_behind (slice_get xs (length xs - 1)) n ≡ true → (d : Name) → 0 < length xs
    → name_cmp (get_or xs (length xs - 1) d) n ≡ Less
last_below xs n behind d some =
    less_from_is_lt (name_cmp (get_or xs (length xs - 1) d) n)
    (ap (λ o. is_behind o n) (sym (slice_get-get_or xs (length xs - 1) d (omega (arith, some)))) ∙ behind)

pub none_behind : (xs : List Name) (n : Name) → IsSorted name_cmp xs → is_behind (slice_get xs (length xs - 1)) n ≡ true
    → list_any (bytes_eq n) xs ≡ false
none_behind xs n sorted behind = none xs n (λ i d inside. apart n (get_or xs i d) Less (below i d inside) refl)
  where
    least : (o p : Ordering) → ordering_index o ≤ ordering_index p → p ≡ Less → o ≡ Less
    least Less p low is = refl
    least Equal p low is = absurd (omega (arith, low, ap ordering_index is))
    least Greater p low is = absurd (omega (arith, low, ap ordering_index is))

    below : (i : ℕ) (d : Name) → i < length xs → name_cmp (get_or xs i d) n ≡ Less
    below i d inside =
        least (name_cmp (get_or xs i d) n) (name_cmp (get_or xs (length xs - 1) d) n)
        (searchable_from_sorted nat_list_cmp_total (λ (y : Name). y) xs n sorted i (length xs - 1) d (omega (arith, inside))
        (omega (arith, inside)))
        (last_below xs n behind d (omega (arith, inside)))

-- ---- what a search finds

pub found : (xs : List Name) (n : Name) (i : ℕ) → i < length xs → HoldsAt (λ y. name_cmp y n ≡ Equal) xs i
    → list_any (bytes_eq n) xs ≡ true
found xs n i inside at =
    list_any_at (bytes_eq n) xs i n inside
    (bytes_eq-symm n (get_or xs i n) ∙ texts_ties (get_or xs i n) n ∙ ap is_eq (at n))

pub none_between : (xs : List Name) (n : Name) (i : ℕ) → IsPartitionPoint (λ y. name_cmp y n ≡ Less) (λ y. name_cmp y n ≡ Greater) xs i
    → list_any (bytes_eq n) xs ≡ false
none_between xs n i parts = none xs n (λ k d inside. by k d inside (cases_lt k i))
  where
    by : (k : ℕ) (d : Name) → k < length xs → (k < i) ⊎ (i ≤ k) → bytes_eq n (get_or xs k d) ≡ false
    by k d inside (inl before) = apart n (get_or xs k d) Less (parts.0 k d (omega arith) before) refl
    by k d inside (inr behind) = apart n (get_or xs k d) Greater (parts.1 k d behind inside) refl

-- ---- one name more

pub sorted_behind : (xs : List Name) (n : Name) → IsSorted name_cmp xs → is_behind (slice_get xs (length xs - 1)) n ≡ true
    → IsSorted name_cmp (xs ++ n ∷ [])
sorted_behind xs n sorted behind =
    IsSortedBy-push (λ x y. is_lt (name_cmp x y)) xs n sorted
    (λ d some. ap is_lt (nat_list_cmp_total.antisymm n (get_or xs (length xs - 1) d) ∙ ap ordering_reverse (last_below xs n behind d some)))

pub put_behind : (xs ys : List Name) (n : Name) → Inserts (xs ++ ys) n ((xs ++ n ∷ []) ++ ys)
put_behind xs ys n m =
    list_any-append (bytes_eq m) (xs ++ n ∷ []) ys
    ∙ ap (λ b. b || list_any (bytes_eq m) ys) (list_any-append (bytes_eq m) xs (n ∷ []))
    ∙ by (list_any (bytes_eq m) xs) (bytes_eq m n) (list_any (bytes_eq m) ys)
    ∙ ap (λ b. b || bytes_eq m n) (sym (list_any-append (bytes_eq m) xs ys))
    ∙ ap (λ b. has_name (xs ++ ys) m || b) (bytes_eq-symm m n)
  where
    by : (a b c : Bool) → ((a || (b || false)) || c) ≡ ((a || c) || b)
    by true b c = refl
    by false true true = refl
    by false true false = refl
    by false false true = refl
    by false false false = refl

-- a set compares its names
by_order : (xs : List Name) (m : Name) → list_any (bytes_eq m) xs ≡ list_any (is_at (name_cmp m)) xs
by_order [] m = refl
by_order (x ∷ xs) m =
    ap (λ b. b || list_any (bytes_eq m) xs) (texts_ties m x) ∙ ap (λ b. is_at (name_cmp m) x || b) (by_order xs m)

pub put_among : (xs : List Name) (old new : BTreeSet Name) (n : Name)
    → ((q : Name) → contains name_cmp new q ≡ cond (is_at (name_cmp n) q) true (contains name_cmp old q))
    → Inserts (xs ++ old.keys) n (xs ++ new.keys)
put_among xs old new n updates m =
    list_any-append (bytes_eq m) xs new.keys
    ∙ ap (λ b. list_any (bytes_eq m) xs || b)
    (by_order new.keys m ∙ updates m ∙ ap (cond (is_at (name_cmp n) m) true) (sym (by_order old.keys m)))
    ∙ ap (λ b. list_any (bytes_eq m) xs || cond b true (list_any (bytes_eq m) old.keys)) (sym (texts_ties n m))
    ∙ by (list_any (bytes_eq m) xs) (bytes_eq n m) (list_any (bytes_eq m) old.keys)
    ∙ ap (λ b. b || bytes_eq n m) (sym (list_any-append (bytes_eq m) xs old.keys))
  where
    by : (a b c : Bool) → (a || cond b true c) ≡ ((a || c) || b)
    by true b true = refl
    by true b false = refl
    by false true true = refl
    by false true false = refl
    by false false true = refl
    by false false false = refl

-- a name is among both where it is among one
pub among_both : (xs : List Name) (s : BTreeSet Name) (n : Name)
    → has_name (xs ++ s.keys) n ≡ (list_any (bytes_eq n) xs || contains name_cmp s n)
among_both xs s n =
    list_any-append (bytes_eq n) xs s.keys ∙ ap (λ b. list_any (bytes_eq n) xs || b) (by_order s.keys n)
