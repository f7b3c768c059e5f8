-- Names beside values as one list of pairs, and what of their order stays when some are looked at, one is put in, or one is taken out.
use Rattle.std.proofs.Common.{◌≡◌, ℕ, zero, suc, ◌+◌, ◌-◌, ◌<◌, ◌≤◌, ◌⊎◌, inl, inr, List, [], ◌∷◌, ◌++◌, length, get_or, take, drop}
use Rattle.std.proofs.Common.{Vec, Global, Some, Ok, Err, Result, MatchResult, IfOk, refl, sym, ap, subst, ◌∙◌, append_assoc, arith}
use Rattle.std.specs.Prelude.{slice_get}
use Rattle.std.specs.List.{AllByRecursion, AllZip, AppendsClones, HoldsAt, insert, remove, zip}
use Rattle.std.specs.List.Sorted.{IsSorted, IsStrictlySortedBy, IsNonDecreasingBy, IsPartitionPoint, IsSearchInRange, IsBinarySearchResult}
use Rattle.std.specs.Map.{keys_of, values_of}
use Rattle.std.specs.declared.cmp.Ordering.TheVariants.{Less, Equal, Greater}
use Rattle.std.specs.Ordering.{is_lt, ordering_index, ordering_reverse}
use Rattle.std.specs.Cmp.Lexicographic.{nat_list_cmp_total}
use Rattle.std.proofs.lemmas.List.{get_or-take, get_or-drop, get_or_read, length-take, length-drop, take-take}
use Rattle.std.proofs.lemmas.List.{drop-take, drop-drop, take-map, drop-map, length-map}
use Rattle.std.proofs.lemmas.List.Edits.{length-insert, length-remove}
use Rattle.std.proofs.lemmas.List.Sorted.{searchable_from_sorted}
use Rattle.std.proofs.lemmas.Map.Keys.{Less-from_sorted}
use Rattle.std.proofs.lemmas.Map.Made.{keys_of-zip}
use Rattle.std.proofs.lemmas.Option.{slice_get_read, slice_get-get_or, slice_get_within}
use Rattle.std.proofs.lemmas.Slice.Zip.{seconds-zip}
use Rattle.std.specs.Vec.{vec_len}
use Rattle.std.proofs.lemmas.List.Elements.{same_from_all_zip}
use Rattle.svn_lists.proofs.Every.{all_drop, all_from_places, all_take}
use Rattle.svn_lists.proofs.Orderings.{less_from_index}
use Rattle.svn_lists.proofs.Sorted.{sorted_insert, sorted_remove}
use Rattle.svn_lists.proofs.Zips.{length-pairs, zip-insert, zip-remove}
use Rattle.svn_types.specs.declared.name.Name.{Name as DeclaredName}
use Rattle.svn_types.specs.Names.{name_cmp}
use Rattle.svn_types.proofs.NameLemmas.{Name, same_name}
use Rattle.svn_name_map.specs.Runs.{IsBelow, IsAbove, IsFoundAt, IsPlaceFor}

-- ---- where a name is

-- a name is nowhere among names, and would be at a place
abbrev pub IsGap : List Name → Name → ℕ → Type 0
IsGap ks name i =
    (i ≤ length ks) × AllByRecursion (λ q. name_cmp q name ≡ Less) (take i ks) × AllByRecursion (λ q. name_cmp name q ≡ Less) (drop i ks)

pub weakly_sorted : (ks : List Name) → IsStrictlySortedBy name_cmp ks → IsSorted name_cmp ks
weakly_sorted ks s k d low below =
    ap is_lt (nat_list_cmp_total.antisymm (get_or ks (k + 1) d) (get_or ks k d) ∙ ap ordering_reverse (Less-from_sorted name_cmp ks k (k + 1) d s (omega arith) below))

pub searchable : (ks : List Name) (name : Name) → IsStrictlySortedBy name_cmp ks → IsNonDecreasingBy (λ y. ordering_index (name_cmp y name)) ks
searchable ks name s = searchable_from_sorted nat_list_cmp_total (λ (y : Name). y) ks name (weakly_sorted ks s)

-- after the last
pub gap_behind : (ks : List Name) (name last : Name) → IsStrictlySortedBy name_cmp ks → 0 < length ks → last ≡ get_or ks (length ks - 1) last
    → name_cmp last name ≡ Less → IsGap ks name (length ks)
gap_behind ks name last s some is less =
    (omega arith, all_take (λ q. name_cmp q name ≡ Less) (length ks) ks (all_from_places (λ q. name_cmp q name ≡ Less) ks below), none (length ks) ks (omega arith))
  where
    below : (i : ℕ) (d : Name) → i < length ks → name_cmp (get_or ks i d) name ≡ Less
    below i d within =
        less_from_index (name_cmp (get_or ks i d) name) (name_cmp (get_or ks (length ks - 1) d) name)
        (searchable ks name s i (length ks - 1) d (omega arith) (omega arith))
        (ap (λ (q : Name). name_cmp q name) (sym (get_or_read ks (length ks - 1) last (omega arith) is d)) ∙ less)

    none : (n : ℕ) (xs : List Name) → length xs ≤ n → AllByRecursion (λ q. name_cmp name q ≡ Less) (drop n xs)
    none zero [] short = tt
    none (suc n) [] short = tt
    none zero (x ∷ xs) short = absurd (omega arith)
    none (suc n) (x ∷ xs) short = none n xs (omega arith)

-- where a search ends that doesn't find it
pub gap_between : (ks : List Name) (name : Name) (i : ℕ) → i ≤ length ks
    → IsPartitionPoint (λ y. name_cmp y name ≡ Less) (λ y. name_cmp y name ≡ Greater) ks i → IsGap ks name i
gap_between ks name i within parts = (
  within,
  all_from_places (λ q. name_cmp q name ≡ Less) (take i ks) (λ k d inside.
      let below : k < i = omega (arith, length-take i ks, inside) in
      ap (λ (q : Name). name_cmp q name) (get_or-take i ks k d below) ∙ parts.0 k d (omega arith) below),
  all_from_places (λ q. name_cmp name q ≡ Less) (drop i ks) (λ k d inside.
      let before : i + k < length ks = omega (arith, length-drop i ks, inside) in
      ap (name_cmp name) (get_or-drop i ks k d) ∙ nat_list_cmp_total.antisymm name (get_or ks (i + k) d)
      ∙ ap ordering_reverse (parts.1 (i + k) d (omega arith) before)),
)

-- ---- the same, of pairs

module _ {V : Type 0} (es : List (Name × V)) where
  pub place_from_gap : (ks : List Name) (name : Name) (i : ℕ) → ks ≡ keys_of es → IsGap ks name i → IsPlaceFor es name i
  place_from_gap ks name i are gap = (
    omega (arith, gap.0, ap length are, length-map es (λ (e : Name × V). e.0)),
    subst (λ (l : List Name). AllByRecursion (λ q. name_cmp q name ≡ Less) l) (ap (take i) are ∙ take-map (λ (e : Name × V). e.0) i es) gap.1,
    subst (λ (l : List Name). AllByRecursion (λ q. name_cmp name q ≡ Less) l) (ap (drop i) are ∙ drop-map (λ (e : Name × V). e.0) i es) gap.2,
  )

  pub gap_from_place : (ks : List Name) (name : Name) (i : ℕ) → ks ≡ keys_of es → IsPlaceFor es name i → IsGap ks name i
  gap_from_place ks name i are place = (
    omega (arith, place.0, ap length are, length-map es (λ (e : Name × V). e.0)),
    subst (λ (l : List Name). AllByRecursion (λ q. name_cmp q name ≡ Less) l) (sym (ap (take i) are ∙ take-map (λ (e : Name × V). e.0) i es)) place.1,
    subst (λ (l : List Name). AllByRecursion (λ q. name_cmp name q ≡ Less) l) (sym (ap (drop i) are ∙ drop-map (λ (e : Name × V). e.0) i es)) place.2,
  )

  found_at : (ks : List Name) (name : Name) (i : ℕ) → ks ≡ keys_of es → slice_get ks i ≡ Some name → IsFoundAt es name i
  found_at ks name i are at = (
    omega (arith, slice_get_within ks i name at, ap length are, length-map es (λ (e : Name × V). e.0)),
    ap (λ (l : List Name). slice_get l i) (sym are) ∙ at,
  )

  pub found_from_equal : (ks : List Name) (name q : Name) (i : ℕ) → ks ≡ keys_of es → i < length ks → q ≡ get_or ks i q → name_cmp q name ≡ Equal
      → IsFoundAt es name i
  found_from_equal ks name q i are within is same =
      found_at ks name i are (slice_get_read ks (length ks) i q refl within is ∙ ap Some (same_name q name same))

  -- what a search returns
  pub searched : (ks : List Name) (name : Name) (r : Result ℕ ℕ) → ks ≡ keys_of es → IsStrictlySortedBy name_cmp ks
      → IsSearchInRange r (length ks) → IfOk r (HoldsAt (λ y. name_cmp y name ≡ Equal) ks) → IsBinarySearchResult (λ y. name_cmp y name) ks r
      → MatchResult r (IsFoundAt es name) (IsPlaceFor es name)
  searched ks name (Ok i) are s within same position =
      found_at ks name i are (slice_get-get_or ks i name within ∙ ap Some (same_name (get_or ks i name) name (same name)))
  searched ks name (Err i) are s within same position = place_from_gap ks name i are (gap_between ks name i within (position (searchable ks name s)))

  -- ---- in the first pairs, or in those after them

  module _ (name : Name) (place first : ℕ) (at : IsPlaceFor es name place) where
    pub place_before : (front : List (Name × V)) → front ≡ take first es → place ≤ first → first ≤ length es → IsPlaceFor front name place
    place_before front is before within =
        let rest : place + (first - place) ≡ first = omega arith in
        let behind : drop place (take first es) ≡ take (first - place) (drop place es) =
        ap (λ (n : ℕ). drop place (take n es)) (sym rest) ∙ drop-take place (first - place) es in
        subst (λ (l : List (Name × V)). IsPlaceFor l name place) (sym is) (
          omega (arith, length-take first es),
          subst (λ (l : List (Name × V)). IsBelow name l) (sym (take-take place first es before)) at.1,
          subst (λ (l : List Name). AllByRecursion (λ q. name_cmp name q ≡ Less) l)
              (take-map (λ (e : Name × V). e.0) (first - place) (drop place es) ∙ ap keys_of (sym behind))
              (all_take (λ q. name_cmp name q ≡ Less) (first - place) (keys_of (drop place es)) at.2),
        )

    pub place_behind : (back : List (Name × V)) → back ≡ drop first es → first ≤ place → IsPlaceFor back name (place - first)
    place_behind back is behind =
        let rest : first + (place - first) ≡ place = omega arith in
        let before : take (place - first) (drop first es) ≡ drop first (take place es) =
        sym (drop-take first (place - first) es) ∙ ap (λ (n : ℕ). drop first (take n es)) rest in
        subst (λ (l : List (Name × V)). IsPlaceFor l name (place - first)) (sym is) (
          omega (arith, length-drop first es, at.0),
          subst (λ (l : List Name). AllByRecursion (λ q. name_cmp q name ≡ Less) l)
              (drop-map (λ (e : Name × V). e.0) first (take place es) ∙ ap keys_of (sym before))
              (all_drop (λ q. name_cmp q name ≡ Less) first (keys_of (take place es)) at.1),
          subst (λ (l : List (Name × V)). IsAbove name l) (sym (drop-drop (place - first) first es ∙ ap (λ (n : ℕ). drop n es) rest)) at.2,
        )

-- ---- a run that is written to

-- what a run keeps of its names and values
abbrev pub IsRun : {V : Type 0} → List Name → List V → Type 0
IsRun ks vs = (length vs ≡ length ks) × (0 < length vs) × IsStrictlySortedBy name_cmp ks

module _ {V : Type 0} (ks ls : List Name) (vs ws : List V) (run : IsRun ks vs) where
  module _ (es : List (Name × V)) (are : zip ks vs ≡ es) where
    pub length-run : length vs ≡ length es
    length-run = sym (length-pairs ks vs run.0) ∙ ap length are

    keys_run : ks ≡ keys_of es
    keys_run = sym (keys_of-zip ks vs run.0) ∙ ap keys_of are

    pub values_run : vs ≡ values_of es
    values_run = sym (seconds-zip ks vs run.0) ∙ ap values_of are

    module _ (place : ℕ) (name : Name) (value : V) (names : ls ≡ insert ks place name) (values : ws ≡ insert vs place value) where
      pub run_insert : IsPlaceFor es name place → IsRun ls ws
      run_insert at =
          let gap = gap_from_place es ks name place keys_run at in
          let more_names = length-insert ks place name gap.0 in
          let more_values = length-insert vs place value (omega (arith, gap.0, run.0)) in (
            omega (arith, ap length values, ap length names, more_names, more_values, run.0),
            omega (arith, ap length values, more_values),
            subst (λ (l : List Name). IsStrictlySortedBy name_cmp l) (sym names) (sorted_insert name_cmp ks place name run.2 gap.1 gap.2),
          )

      pub pairs_insert : zip ls ws ≡ insert es place (name, value)
      pairs_insert =
          (λ i. zip (names i) (values i)) ∙ zip-insert ks vs place name value run.0 ∙ ap (λ (l : List (Name × V)). insert l place (name, value)) are

    module _ (place : ℕ) (names : ls ≡ remove ks place) (values : ws ≡ remove vs place) where
      pub run_remove : place < length es → 1 < length es → IsRun ls ws
      run_remove within more =
          let fewer_names = length-remove ks place (omega (arith, length-run, within, run.0)) in
          let fewer_values = length-remove vs place (omega (arith, length-run, within)) in (
            omega (arith, ap length values, ap length names, fewer_names, fewer_values, run.0),
            omega (arith, ap length values, fewer_values, length-run, more),
            subst (λ (l : List Name). IsStrictlySortedBy name_cmp l) (sym names) (sorted_remove name_cmp ks place run.2),
          )

      pub pairs_remove : zip ls ws ≡ remove es place
      pairs_remove = (λ i. zip (names i) (values i)) ∙ zip-remove ks vs place run.0 ∙ ap (λ (l : List (Name × V)). remove l place) are

-- the names that are written to are those of before, or clones of them
abbrev pub IsOwnOrCopy : Vec DeclaredName Global → Vec DeclaredName Global → Type 0
IsOwnOrCopy old own =
    (own ≡ old) ⊎ (AllZip (λ (x y : DeclaredName). y ≡ x) old.items own.items × (vec_len own ≡ vec_len old))

pub same_names : (old own : Vec DeclaredName Global) → IsOwnOrCopy old own → own.items ≡ old.items
same_names old own (inl e) = ap (λ (v : Vec DeclaredName Global). v.items) e
same_names old own (inr copies) = same_from_all_zip (λ (x y : DeclaredName). y ≡ x) old.items own.items copies.0 (λ x y e. e)

-- what they are once that is done
pub written : (change : List DeclaredName → List DeclaredName) (old own after last : Vec DeclaredName Global) → IsOwnOrCopy old own
    → last ≡ after → after.items ≡ change own.items → last.items ≡ change old.items
written change old own after last either kept changed =
    ap (λ (v : Vec DeclaredName Global). v.items) kept ∙ changed ∙ ap change (same_names old own either)

-- names in two parts, cloned, with one between them
pub joined_names : (names : List DeclaredName) (place : ℕ) (name : DeclaredName) (front back none first most all : List DeclaredName)
    → front ≡ take place names → back ≡ drop place names → none ≡ [] → AppendsClones (λ (x y : DeclaredName). y ≡ x) none first front
    → most ≡ first ++ name ∷ [] → AppendsClones (λ (x y : DeclaredName). y ≡ x) most all back → all ≡ insert names place name
joined_names names place name front back none first most all is_front is_back is_none cloned pushed more =
    appended most all back more
    ∙ ap (λ (l : List DeclaredName). l ++ back) (pushed ∙ ap (λ (l : List DeclaredName). l ++ name ∷ []) (appended none first front cloned ∙ ap (λ (l : List DeclaredName). l ++ front) is_none))
    ∙ append_assoc front (name ∷ []) back
    ∙ (λ i. is_front i ++ name ∷ is_back i)
  where
    appended : (old new other : List DeclaredName) → AppendsClones (λ (x y : DeclaredName). y ≡ x) old new other → new ≡ old ++ other
    appended old new other a = a.1 ∙ ap (λ (l : List DeclaredName). old ++ l) (same_from_all_zip (λ (x y : DeclaredName). y ≡ x) other a.0 a.2 (λ x y e. e))
