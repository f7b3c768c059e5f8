-- Lists of keys with values, mostly in strict order of their keys: what is at each key, and that equal look-ups make equal lists.
use Rattle.std.proofs.Common.{Bool, List, [], ap, arith, cond, false, get_or, inl, inr, length, refl, subst, sym, true, true≢false, ℕ}
use Rattle.std.proofs.Common.{◌++◌, ◌<◌, ◌∙◌, ◌∷◌, ◌≡◌}
use Rattle.std.specs.BTreeMap.{insert_entry, is_at}
use Rattle.std.specs.BTreeMap.Range.{entries_between}
use Rattle.std.specs.Cmp.{Equal-is, IsTotalOrder, eq_by_cmp_equiv}
use Rattle.std.specs.List.{AllByRecursion}
use Rattle.std.specs.List.Sorted.{IsStrictlySortedBy}
use Rattle.std.specs.Map.{keys_of, lookup, remove_entry, values_of}
use Rattle.std.specs.Ordering.{is_eq, match_ordering, nat_cmp, ordering_reverse}
use Rattle.std.specs.Prelude.{None, Some, nat_eq, slice_get}
use Rattle.std.specs.declared.cmp.Ordering.{Ordering}
use Rattle.std.specs.declared.cmp.Ordering.TheVariants.{Equal, Greater, Less}
use Rattle.std.specs.declared.ops.Bound.TheVariants.{Unbounded}
use Rattle.std.proofs.lemmas.Bool.{cases_order, ne_eqb}
use Rattle.std.proofs.lemmas.Cmp.{tied_itself}
use Rattle.std.proofs.lemmas.Map.{NonePasses, lookup-none, lookup-remove_entry}
use Rattle.std.proofs.lemmas.Map.Entries.{length-values_of, lookup_head, none_below_head, none_past_head}
use Rattle.std.proofs.lemmas.Map.Keys.{IsDistinct-from_sorted, sorted_head, sorted_tail}
use Rattle.std.proofs.lemmas.Option.{same_Some, slice_get-get_or}
use Rattle.svn_lists.proofs.Orderings.{less_from_nat_cmp, nat_cmp_equal, nat_cmp_greater, nat_cmp_less}
use Rattle.svn_lists.proofs.Sorted.{AllAbove, above_all_from, sorted_cons}

-- ---- what holds of the keys

pub all_keys_left : {K X : Type 0} (P : K → Type 0) (xs ys : List (K × X)) → AllByRecursion P (keys_of (xs ++ ys))
    → AllByRecursion P (keys_of xs)
all_keys_left P [] ys all = tt
all_keys_left P (x ∷ xs) ys all = (all.0, all_keys_left P xs ys all.1)

pub all_keys_right : {K X : Type 0} (P : K → Type 0) (xs ys : List (K × X)) → AllByRecursion P (keys_of (xs ++ ys))
    → AllByRecursion P (keys_of ys)
all_keys_right P [] ys all = all
all_keys_right P (x ∷ xs) ys all = all_keys_right P xs ys all.1

pub keys_of-push : {K X : Type 0} (xs : List (K × X)) (e : K × X) → keys_of (xs ++ e ∷ []) ≡ keys_of xs ++ e.0 ∷ []
keys_of-push [] e = refl
keys_of-push {K} (x ∷ xs) e = ap (λ (l : List K). x.0 ∷ l) (keys_of-push xs e)

pub first_key : {K X : Type 0} (r l : List (K × X)) → 0 < length r
    → (q : K) × (slice_get (keys_of r) 0 ≡ Some q) × (slice_get (keys_of (r ++ l)) 0 ≡ Some q)
first_key [] l some = absurd (omega (arith, some))
first_key (e ∷ r) l some = (e.0, refl, refl)

-- a value that was read of a list's values
pub value_at : {K X : Type 0} (r : List (K × X)) (vs : List X) (i : ℕ) (v : X) → vs ≡ values_of r → i < length r → v ≡ get_or vs i v
    → slice_get (values_of r) i ≡ Some v
value_at {K} {X} r vs i v is within read =
    ap (λ (l : List X). slice_get l i) (sym is)
    ∙ slice_get-get_or vs i v (subst (λ n. i < n) (sym (ap length is ∙ length-values_of r)) within) ∙ ap Some (sym read)

-- a range without ends is all
pub entries_between-all : {K X : Type 0} (order : K → K → Ordering) (es : List (K × X)) → entries_between order Unbounded Unbounded es ≡ es
entries_between-all order [] = refl
entries_between-all order (e ∷ es) = ap (λ l. e ∷ l) (entries_between-all order es)

-- ---- R is a total order that distinguishes all keys

module _ {K : Type 0} {R : K → K → Ordering} (total : IsTotalOrder R) (exact : (x y : K) → R x y ≡ Equal → x ≡ y) where
  pub at_same : (q k : K) → is_at (R q) k ≡ true → q ≡ k
  at_same q k h = exact q k ((Equal-is (R q k)).0 h)

  pub at_own : (k : K) → is_at (R k) k ≡ true
  at_own k = ap is_eq (tied_itself total k)

module _ {K X : Type 0} {R : K → K → Ordering} (total : IsTotalOrder R) (exact : (x y : K) → R x y ≡ Equal → x ≡ y) where
  found_first : (e : K × X) (es : List (K × X)) → lookup (is_at (R e.0)) (e ∷ es) ≡ Some e.1
  found_first e es = lookup_head (is_at (R e.0)) e es (at_own total exact e.0)

  absent_after : (e : K × X) (es : List (K × X)) → IsStrictlySortedBy R (keys_of (e ∷ es)) → lookup (is_at (R e.0)) es ≡ None
  absent_after e es sorted =
      lookup-none (is_at (R e.0)) es
      (none_past_head (eq_by_cmp_equiv total) e.0 e es (IsDistinct-from_sorted R _ sorted) (at_own total exact e.0))

  pub lookup-remove : (n q : K) (es : List (K × X)) → IsStrictlySortedBy R (keys_of es)
      → lookup (is_at (R q)) (remove_entry (is_at (R n)) es) ≡ cond (is_at (R n) q) None (lookup (is_at (R q)) es)
  lookup-remove n q es sorted =
      lookup-remove_entry (eq_by_cmp_equiv total) (is_at (R n)) (λ x y h. ap (λ z. is_at (R z) y) (at_same total exact n x h)) q es
      (IsDistinct-from_sorted R _ sorted)

  pub same_entries : (es fs : List (K × X)) → IsStrictlySortedBy R (keys_of es) → IsStrictlySortedBy R (keys_of fs)
      → ((q : K) → lookup (is_at (R q)) es ≡ lookup (is_at (R q)) fs) → es ≡ fs
  same_entries [] [] s t h = refl
  same_entries [] (f ∷ fs) s t h = absurd (none (h f.0 ∙ found_first f fs))
    where
      none : None ≡ Some f.1 → ⊥
      none q = cc
  same_entries (e ∷ es) [] s t h = absurd (none (sym (h e.0) ∙ found_first e es))
    where
      none : None ≡ Some e.1 → ⊥
      none q = cc
  same_entries (e ∷ es) (f ∷ fs) s t h =
      by (R e.0 f.0) refl (same_entries es fs (sorted_tail R e.0 (keys_of es) s) (sorted_tail R f.0 (keys_of fs) t))
    where
      none_e : None ≡ Some e.1 → ⊥
      none_e q = cc

      none_f : None ≡ Some f.1 → ⊥
      none_f q = cc

      by : (o : Ordering) → R e.0 f.0 ≡ o → (((q : K) → lookup (is_at (R q)) es ≡ lookup (is_at (R q)) fs) → es ≡ fs) → e ∷ es ≡ f ∷ fs
      by Less c ih =
          absurd (none_e (sym (lookup-none (is_at (R e.0)) (f ∷ fs) (none_below_head total e.0 f fs t c)) ∙ sym (h e.0) ∙ found_first e es))
      by Greater c ih =
          absurd (none_f
          (sym
          (lookup-none (is_at (R f.0)) (e ∷ es) (none_below_head total f.0 e es s (total.antisymm f.0 e.0 ∙ ap ordering_reverse c)))
          ∙ h f.0 ∙ found_first f fs))
      by Equal c ih =
          let key = exact e.0 f.0 c in
          let value = same_Some e.1 f.1 (sym (found_first e es) ∙ h e.0 ∙ ap (λ k. lookup (is_at (R k)) (f ∷ fs)) key ∙ found_first f fs) in
          λ i. (key i, value i) ∷ ih rests i
        where
          rests : (q : K) → lookup (is_at (R q)) es ≡ lookup (is_at (R q)) fs
          rests q = at (is_at (R q) e.0) (is_at (R q) f.0) refl (ap (is_at (R q)) (exact e.0 f.0 c)) (h q)
            where
              at : (a b : Bool) → is_at (R q) e.0 ≡ a → a ≡ b
                  → cond a (Some e.1) (lookup (is_at (R q)) es) ≡ cond b (Some f.1) (lookup (is_at (R q)) fs)
                  → lookup (is_at (R q)) es ≡ lookup (is_at (R q)) fs
              at false false u v w = w
              at false true u v w = absurd (true≢false (sym v))
              at true false u v w = absurd (true≢false v)
              at true true u v w =
                  let at_e = at_same total exact q e.0 u in
                  ap (λ k. lookup (is_at (R k)) es) at_e ∙ absent_after e es s
                  ∙ sym (absent_after f fs t) ∙ ap (λ k. lookup (is_at (R k)) fs) (sym (exact e.0 f.0 c) ∙ sym at_e)

-- ---- an entry put in or taken out

pub all_insert_entry : {K X : Type 0} (R : K → K → Ordering) (P : K → Type 0) (k : K) (v : X) (es : List (K × X))
    → AllByRecursion P (keys_of es)
    → P k → AllByRecursion P (keys_of (insert_entry R es k v))
all_insert_entry R P k v [] h p = (p, tt)
all_insert_entry R P k v (e ∷ es) h p = by (R k e.0) (all_insert_entry R P k v es h.1 p)
  where
    by : (o : Ordering) → AllByRecursion P (keys_of (insert_entry R es k v))
        → AllByRecursion P (keys_of (match_ordering o ((k, v) ∷ e ∷ es) ((e.0, v) ∷ es) (e ∷ insert_entry R es k v)))
    by Less ih = (p, h)
    by Equal ih = h
    by Greater ih = (h.0, ih)

pub all_remove_entry : {K X : Type 0} (P : K → Type 0) (test : K → Bool) (es : List (K × X)) → AllByRecursion P (keys_of es)
    → AllByRecursion P (keys_of (remove_entry test es))
all_remove_entry P test [] h = h
all_remove_entry P test (e ∷ es) h = by (test e.0) (all_remove_entry P test es h.1)
  where
    by : (b : Bool) → AllByRecursion P (keys_of (remove_entry test es)) → AllByRecursion P (keys_of (cond b es (e ∷ remove_entry test es)))
    by true ih = h.1
    by false ih = (h.0, ih)

pub sorted_insert_entry : {K X : Type 0} {R : K → K → Ordering} (total : IsTotalOrder R) (k : K) (v : X) (es : List (K × X))
    → IsStrictlySortedBy R (keys_of es) → IsStrictlySortedBy R (keys_of (insert_entry R es k v))
sorted_insert_entry {R} total k v [] h = sorted_cons R k [] tt h
sorted_insert_entry {R} total k v (e ∷ es) h = by (R k e.0) refl (sorted_insert_entry total k v es (sorted_tail R e.0 (keys_of es) h))
  where
    by : (o : Ordering) → R k e.0 ≡ o → IsStrictlySortedBy R (keys_of (insert_entry R es k v))
        → IsStrictlySortedBy R (keys_of (match_ordering o ((k, v) ∷ e ∷ es) ((e.0, v) ∷ es) (e ∷ insert_entry R es k v)))
    by Less q ih = sorted_cons R k (e.0 ∷ keys_of es) (q, above_all_from total k e.0 (keys_of es) q (sorted_head R e.0 (keys_of es) h)) h
    by Equal q ih = h
    by Greater q ih =
        sorted_cons R e.0 (keys_of (insert_entry R es k v))
        (all_insert_entry R (λ y. R e.0 y ≡ Less) k v es (sorted_head R e.0 (keys_of es) h) (total.antisymm e.0 k ∙ ap ordering_reverse q))
        ih

pub sorted_remove_entry : {K X : Type 0} (R : K → K → Ordering) (test : K → Bool) (es : List (K × X)) → IsStrictlySortedBy R (keys_of es)
    → IsStrictlySortedBy R (keys_of (remove_entry test es))
sorted_remove_entry R test [] h = h
sorted_remove_entry R test (e ∷ es) h = by (test e.0) (sorted_remove_entry R test es (sorted_tail R e.0 (keys_of es) h))
  where
    by : (b : Bool) → IsStrictlySortedBy R (keys_of (remove_entry test es))
        → IsStrictlySortedBy R (keys_of (cond b es (e ∷ remove_entry test es)))
    by true ih = sorted_tail R e.0 (keys_of es) h
    by false ih =
        sorted_cons R e.0 (keys_of (remove_entry test es))
        (all_remove_entry (λ y. R e.0 y ≡ Less) test es (sorted_head R e.0 (keys_of es) h)) ih

-- ---- numbers as keys

module _ {V : Type 0} where
  pub none_passes : (k n : ℕ) (es : List (ℕ × V)) → k < n → AllAbove n (keys_of es) → NonePasses (nat_eq k) es
  none_passes k n [] less above = tt
  none_passes k n (e ∷ es) less above =
      let more = less_from_nat_cmp n e.0 above.0 in (ne_eqb k e.0 (λ same. omega arith), none_passes k n es less above.1)

  -- the three ways in which a pair is put before, at or after the first
  pub put_cases : (P : List (ℕ × V) → Type 0) (k : ℕ) (w : V) (e : ℕ × V) (es : List (ℕ × V)) → (k < e.0 → P ((k, w) ∷ e ∷ es))
      → (k ≡ e.0 → P ((e.0, w) ∷ es)) → (e.0 < k → P (e ∷ insert_entry nat_cmp es k w)) → P (insert_entry nat_cmp (e ∷ es) k w)
  put_cases P k w e es before here later =
      let Q : Ordering → Type 0 = λ c. P (match_ordering c ((k, w) ∷ e ∷ es) ((e.0, w) ∷ es) (e ∷ insert_entry nat_cmp es k w)) in
      elim (cases_order k e.0) [
        | inl same ↦ subst Q (sym (nat_cmp_equal k e.0 same)) (here same)
        | inr apart ↦ elim apart [
          | inl less ↦ subst Q (sym (nat_cmp_less k e.0 less)) (before less)
          | inr more ↦ subst Q (sym (nat_cmp_greater k e.0 more)) (later more)
        ]
      ]

  pub put_first : (q k : ℕ) (v w : V) (es : List (ℕ × V)) → q < k → insert_entry nat_cmp ((k, v) ∷ es) q w ≡ (q, w) ∷ (k, v) ∷ es
  put_first q k v w es less =
      ap (λ (c : Ordering). match_ordering c ((q, w) ∷ (k, v) ∷ es) ((k, w) ∷ es) ((k, v) ∷ insert_entry nat_cmp es q w))
      (nat_cmp_less q k less)

  pub put_here : (q k : ℕ) (v w : V) (es : List (ℕ × V)) → q ≡ k → insert_entry nat_cmp ((k, v) ∷ es) q w ≡ (k, w) ∷ es
  put_here q k v w es same =
      ap (λ (c : Ordering). match_ordering c ((q, w) ∷ (k, v) ∷ es) ((k, w) ∷ es) ((k, v) ∷ insert_entry nat_cmp es q w))
      (nat_cmp_equal q k same)

  pub put_later : (q k : ℕ) (v w : V) (es : List (ℕ × V)) → k < q → insert_entry nat_cmp ((k, v) ∷ es) q w ≡
      (k, v) ∷ insert_entry nat_cmp es q w
  put_later q k v w es less =
      ap (λ (c : Ordering). match_ordering c ((q, w) ∷ (k, v) ∷ es) ((k, w) ∷ es) ((k, v) ∷ insert_entry nat_cmp es q w))
      (nat_cmp_greater q k less)
