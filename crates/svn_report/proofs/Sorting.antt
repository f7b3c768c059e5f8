-- The entries of a report in the order of their paths, as they came or sorted.
--     as_came      entries that came in path order are in strict order
--     sorted_strictly, shown_strictly      so is what was sorted, where no two paths are the same
use Rattle.std.proofs.Common.{◌≡◌, ℕ, zero, suc, ◌+◌, ◌<◌, List, [], ◌∷◌, length, refl, sym, ◌∙◌, ap, subst, arith, true≢false, get_or}
use denote.Ref.{Bor}
use Rattle.std.specs.Prelude.{map, slice_get, Some, IsPermutation}
use Rattle.std.specs.List.{AllByRecursion, IsDistinct}
use Rattle.std.specs.List.Sorted.{IsStrictlySortedBy, IsSortedBy}
use Rattle.std.specs.Map.{keys_of}
use Rattle.std.specs.Map.Iter.{deref_pair}
use Rattle.std.specs.declared.cmp.Ordering.TheVariants.{Less}
use Rattle.std.specs.Ordering.{is_lt}
use Rattle.std.proofs.lemmas.List.{get_or-map, length-map}
use Rattle.std.proofs.lemmas.List.Sorted.{IsPermutation-map}
use Rattle.std.proofs.lemmas.Map.Keys.{apart_from_distinct, sorted_from_all_adjacent, IsDistinct-IsPermutation}
use Rattle.svn_types.specs.Names.{Path, path_cmp}
use Rattle.svn_types.specs.Paths.{path_eq}
use Rattle.svn_types.proofs.PathLemmas.{path_eq-symm}
use Rattle.svn_types.proofs.PathsInOrder.{paths_total, earlier}
use Rattle.svn_report.specs.declared.entry.ReportEntry.{ReportEntry}
use Rattle.svn_report.specs.Reports.{Entries}
use Rattle.svn_report.specs.ReportOrder.{InPathOrder}

-- a path before those of all entries is before each of the paths
before_each : (p : Path) (es : Entries) → ((j : ℕ) (f : Path × ReportEntry) → slice_get es j ≡ Some f → path_cmp p f.0 ≡ Less)
    → AllByRecursion (λ q. path_cmp p q ≡ Less) (keys_of es)
before_each p [] h = tt
before_each p (f ∷ es) h = (h zero f refl, before_each p es (λ j g at. h (suc j) g at))

pub as_came : (es : Entries) → InPathOrder es → IsStrictlySortedBy path_cmp (keys_of es)
unfolding IsStrictlySortedBy
as_came [] h = tt
as_came (e ∷ es) h = (
  before_each e.0 es (λ j f at. h zero (suc j) e f (omega arith) refl at),
  as_came es (λ i j f g l at there. h (suc i) (suc j) f g (omega (arith, l)) at there),
)

pub sorted_strictly : {X : Type 0} (key : X → Path) (xs : List X) → IsSortedBy (λ x y. is_lt (path_cmp (key x) (key y))) xs
    → IsDistinct path_eq (map key xs) → IsStrictlySortedBy path_cmp (map key xs)
sorted_strictly key [] sorted apart = sorted_from_all_adjacent paths_total [] [] (λ k l. absurd (omega (arith, l)))
sorted_strictly key (x ∷ xs) sorted apart = sorted_from_all_adjacent paths_total (map key (x ∷ xs)) [] rise
  where
    at : (k : ℕ) → k < length (x ∷ xs) → get_or (map key (x ∷ xs)) k [] ≡ key (get_or (x ∷ xs) k x)
    at k l = get_or-map key (x ∷ xs) k x [] l

    rise : (k : ℕ) → k + 1 < length (map key (x ∷ xs))
        → path_cmp (get_or (map key (x ∷ xs)) k []) (get_or (map key (x ∷ xs)) (k + 1) []) ≡ Less
    rise k l =
        let within : k + 1 < length (x ∷ xs) = omega (arith, l, length-map (x ∷ xs) key) in
        let first : k < length (x ∷ xs) = omega (arith, within) in
        earlier (get_or (map key (x ∷ xs)) k []) (get_or (map key (x ∷ xs)) (k + 1) [])
        (apart_from_distinct path_eq (map key (x ∷ xs)) k (k + 1) [] apart (omega arith) l)
        (λ less. true≢false
        (sym (ap is_lt less) ∙ (λ i. is_lt (path_cmp (at (k + 1) within i) (at k first i))) ∙ sorted k x (omega arith) within))

-- ---- entries that are borrowed

abbrev pub Shown : Type 0
Shown = Bor Path × Bor ReportEntry

keys_shown : (xs : List Shown) → keys_of (map deref_pair xs) ≡ map (λ x. x.0.now) xs
keys_shown [] = refl
keys_shown (x ∷ xs) = ap (λ (l : List Path). x.0.now ∷ l) (keys_shown xs)

pub shown_strictly : (xs ys : List Shown) → IsPermutation xs ys → IsDistinct path_eq (keys_of (map deref_pair xs))
    → IsSortedBy (λ x y. is_lt (path_cmp x.0.now y.0.now)) ys → IsStrictlySortedBy path_cmp (keys_of (map deref_pair ys))
shown_strictly xs ys moved apart sorted =
    let still : IsDistinct path_eq (keys_of (map deref_pair ys)) =
    IsDistinct-IsPermutation path_eq path_eq-symm (keys_of (map deref_pair xs)) (keys_of (map deref_pair ys))
    (IsPermutation-map (λ (e : Path × ReportEntry). e.0) (map deref_pair xs) (map deref_pair ys) (IsPermutation-map deref_pair xs ys moved))
    apart in
    subst (IsStrictlySortedBy path_cmp) (sym (keys_shown ys))
    (sorted_strictly (λ (x : Shown). x.0.now) ys sorted (subst (IsDistinct path_eq) (keys_shown ys) still))
