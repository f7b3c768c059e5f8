-- Lists in strict order, and parts of them.
use Rattle.std.proofs.Common.{List, [], arith, drop, false, get_or, length, suc, take, zero, ℕ, ◌++◌, ◌<◌, ◌∷◌, ◌≡◌, ◌≤◌}
use Rattle.std.specs.Cmp.{IsTotalOrder}
use Rattle.std.specs.List.{AllByRecursion, IsDistinct, insert, remove}
use Rattle.std.specs.List.Sorted.{IsStrictlySortedBy}
use Rattle.std.specs.Ordering.{nat_cmp}
use Rattle.std.specs.Prelude.{nat_eq}
use Rattle.std.specs.declared.cmp.Ordering.{Ordering}
use Rattle.std.specs.declared.cmp.Ordering.TheVariants.{Less}
use Rattle.std.proofs.lemmas.Bool.{ne_eqb}
use Rattle.std.proofs.lemmas.Map.Keys.{sorted_head, sorted_tail}
use Rattle.svn_lists.proofs.Every.{all_insert, all_left, all_remove, all_take}
use Rattle.svn_lists.proofs.Orderings.{nat_cmp_equal, nat_cmp_less}

pub sorted_nil : {K : Type 0} (R : K → K → Ordering) → IsStrictlySortedBy R []
unfolding IsStrictlySortedBy
sorted_nil R = tt

pub sorted_cons : {K : Type 0} (R : K → K → Ordering) (k : K) (ks : List K) → AllByRecursion (λ y. R k y ≡ Less) ks
    → IsStrictlySortedBy R ks
    → IsStrictlySortedBy R (k ∷ ks)
unfolding IsStrictlySortedBy
sorted_cons R k ks below sorted = (below, sorted)

module _ {K : Type 0} (c : K → K → Ordering) where
  pub sorted_one : (k : K) → IsStrictlySortedBy c (k ∷ [])
  sorted_one k = sorted_cons c k [] tt (sorted_nil c)

  pub sorted_front : (ks js : List K) → IsStrictlySortedBy c (ks ++ js) → IsStrictlySortedBy c ks
  sorted_front [] js sorted = sorted_nil c
  sorted_front (k ∷ ks) js sorted =
      sorted_cons c k ks (all_left (λ y. c k y ≡ Less) ks js (sorted_head c k (ks ++ js) sorted))
      (sorted_front ks js (sorted_tail c k (ks ++ js) sorted))

  pub sorted_take : (i : ℕ) (ks : List K) → IsStrictlySortedBy c ks → IsStrictlySortedBy c (take i ks)
  unfolding IsStrictlySortedBy
  sorted_take zero ks s = tt
  sorted_take (suc i) [] s = tt
  sorted_take (suc i) (k ∷ ks) s = (all_take (λ y. c k y ≡ Less) i ks s.0, sorted_take i ks s.1)

  pub sorted_drop : (i : ℕ) (ks : List K) → IsStrictlySortedBy c ks → IsStrictlySortedBy c (drop i ks)
  unfolding IsStrictlySortedBy
  sorted_drop zero ks s = s
  sorted_drop (suc i) [] s = tt
  sorted_drop (suc i) (k ∷ ks) s = sorted_drop i ks s.1

  -- a key goes between those below it and those above
  pub sorted_insert : (ks : List K) (i : ℕ) (k : K) → IsStrictlySortedBy c ks → AllByRecursion (λ y. c y k ≡ Less) (take i ks)
      → AllByRecursion (λ y. c k y ≡ Less) (drop i ks) → IsStrictlySortedBy c (insert ks i k)
  unfolding IsStrictlySortedBy
  sorted_insert ks zero k s below above = (above, s)
  sorted_insert [] (suc i) k s below above = (tt, tt)
  sorted_insert (x ∷ ks) (suc i) k s below above =
      (all_insert (λ y. c x y ≡ Less) i ks k below.0 s.0, sorted_insert ks i k s.1 below.1 above)

  pub sorted_remove : (ks : List K) (i : ℕ) → IsStrictlySortedBy c ks → IsStrictlySortedBy c (remove ks i)
  unfolding IsStrictlySortedBy
  sorted_remove [] zero s = tt
  sorted_remove [] (suc i) s = tt
  sorted_remove (k ∷ ks) zero s = s.1
  sorted_remove (k ∷ ks) (suc i) s = (all_remove (λ y. c k y ≡ Less) i ks s.0, sorted_remove ks i s.1)

pub above_all_from : {K : Type 0} {R : K → K → Ordering} (total : IsTotalOrder R) (k m : K) (ks : List K) → R k m ≡ Less
    → AllByRecursion (λ y. R m y ≡ Less) ks → AllByRecursion (λ y. R k y ≡ Less) ks
above_all_from total k m [] h all = tt
above_all_from total k m (x ∷ ks) h all = (total.trans k m x h all.0, above_all_from total k m ks h all.1)

-- ---- numbers

-- each number is above n
abbrev pub AllAbove : ℕ → List ℕ → Type 0
AllAbove n ks = AllByRecursion (λ k. nat_cmp n k ≡ Less) ks

pub above_from_places : (n : ℕ) (ks : List ℕ) → ((i : ℕ) → i < length ks → n < get_or ks i 0) → AllAbove n ks
above_from_places n [] h = tt
above_from_places n (k ∷ ks) h = (nat_cmp_less n k (h 0 (omega arith)), above_from_places n ks (λ i below. h (suc i) (omega arith)))

pub above_insert : (n q : ℕ) (ks : List ℕ) (p : ℕ) → n < q → AllAbove n ks → AllAbove n (insert ks p q)
above_insert n q ks zero less above = (nat_cmp_less n q less, above)
above_insert n q [] (suc p) less above = (nat_cmp_less n q less, tt)
above_insert n q (k ∷ ks) (suc p) less above = (above.0, above_insert n q ks p less above.1)

-- a number goes between those below it and those above
pub sorted_insert_number : (q : ℕ) (ks : List ℕ) (p : ℕ) → IsStrictlySortedBy nat_cmp ks
    → ((i : ℕ) → i < p → i < length ks → get_or ks i 0 < q) → ((i : ℕ) → p ≤ i → i < length ks → q < get_or ks i 0)
    → IsStrictlySortedBy nat_cmp (insert ks p q)
sorted_insert_number q ks zero sorted below from =
    sorted_cons nat_cmp q ks (above_from_places q ks (λ i within. from i (omega arith) within)) sorted
sorted_insert_number q [] (suc p) sorted below from = sorted_one nat_cmp q
sorted_insert_number q (k ∷ ks) (suc p) sorted below from =
    sorted_cons nat_cmp k (insert ks p q)
    (above_insert k q ks p (below 0 (omega arith) (omega arith)) (sorted_head nat_cmp k ks sorted))
    (sorted_insert_number q ks p (sorted_tail nat_cmp k ks sorted) (λ i before within. below (suc i) (omega arith) (omega arith))
    (λ i after within. from (suc i) (omega arith) (omega arith)))

distinct_from_above : (n : ℕ) (ks : List ℕ) → AllAbove n ks → AllByRecursion (λ k. nat_eq n k ≡ false) ks
distinct_from_above n [] above = tt
distinct_from_above n (k ∷ ks) above = (ne_eqb n k (λ same. clash same above.0), distinct_from_above n ks above.1)
  where
    clash : n ≡ k → nat_cmp n k ≡ Less → ⊥
    clash same less = let equal = nat_cmp_equal n k same in cc

pub distinct_from_sorted : (ks : List ℕ) → IsStrictlySortedBy nat_cmp ks → IsDistinct nat_eq ks
unfolding IsDistinct
distinct_from_sorted [] sorted = tt
distinct_from_sorted (k ∷ ks) sorted =
    (distinct_from_above k ks (sorted_head nat_cmp k ks sorted), distinct_from_sorted ks (sorted_tail nat_cmp k ks sorted))

pub distinct_nil : IsDistinct nat_eq []
unfolding IsDistinct
distinct_nil = tt
