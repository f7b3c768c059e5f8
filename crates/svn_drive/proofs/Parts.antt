-- Parts of a report: what is reported below a path, the path's own entry, and the parts of its names.
--     whole_part      all entries in path order are a part
--     has_part, nothing_in, something_in      an entry passes where the part has one
--     own_is, others_are, own_part      the path's own entry is the first of the part at or below it, and the others are the part below it
--     deeper, names_ordered, part_under, part_named      a part below a path, by the names directly below it
use Rattle.std.proofs.Common.{◌≡◌, ◌<◌, Bool, true, false, ◌&&◌, ◌||◌, not, cond, List, [], ◌∷◌, length, refl, sym}
use Rattle.std.proofs.Common.{◌∙◌, ap}
use Rattle.std.proofs.Common.{subst, arith, true≢false}
use Rattle.std.specs.Prelude.{Option, Some, None, is_some, unwrap_or, bytes_eq, IsPermutation}
use Rattle.std.specs.List.{All, AllByRecursion, filter, list_any}
use Rattle.std.specs.List.Sorted.{IsStrictlySortedBy}
use Rattle.std.specs.Map.{keys_of}
use Rattle.std.specs.declared.cmp.Ordering.{Ordering}
use Rattle.std.specs.declared.cmp.Ordering.TheVariants.{Less, Equal, Greater}
use Rattle.std.specs.Ordering.{ordering_then}
use Rattle.std.proofs.lemmas.List.Kept.{IsStrictlySortedBy-filter}
use Rattle.std.proofs.lemmas.List.Sorted.{All-permutation, list_any-IsPermutation}
use Rattle.std.proofs.lemmas.List.Elements.{All-filter}
use Rattle.std.proofs.lemmas.Map.Keys.{sorted_head, sorted_tail}
use Rattle.std.proofs.lemmas.Option.{slice_get-get_or}
use Rattle.svn_lists.proofs.Equality.{bytes_eq-same, bytes_eq-symm, same_bytes}
use Rattle.svn_types.specs.Names.{Path, name_cmp, path_cmp}
use Rattle.svn_types.specs.Paths.{child, is_below, is_within, path_eq}
use Rattle.svn_types.proofs.NameLemmas.{Name, same_name, name_cmp-same, has_name}
use Rattle.svn_types.proofs.PathLemmas.{same_path, path_eq-same, path_eq-symm, is_within-same, below_from, below_parts, below_from_child}
use Rattle.svn_types.proofs.PathsInOrder.{paths_total, before_apart, below_after}
use Rattle.svn_report.specs.declared.entry.ReportEntry.{ReportEntry}
use Rattle.svn_report.specs.Reports.{Entries, entry_at}
use Rattle.svn_report.specs.ReportNames.{has_entry_within}
use Rattle.svn_report.specs.LawfulReports.{AreLawfulEntries}
use Rattle.law_drive.proofs.Ways.{Ordered}
use Rattle.svn_drive.specs.Firsts.{first_key}
use Rattle.svn_drive.specs.Parts.{IsPart, AreDeeper, Named, by_name, entries_under, name_at, none_or, own_entry, with_entry, without_own}
use Rattle.svn_drive.proofs.ByName.{all_after, first_is, has_at, has_under, under_is}

abbrev Entry : Type 0
Entry = Path × ReportEntry

-- ---- what passes a test

passes : (t : Entry → Bool) (es : Entries) → AllByRecursion (λ e. t e ≡ true) (filter t es)
passes t [] = tt
passes t (e ∷ es) = by (t e) refl (passes t es)
  where
    by : (b : Bool) → t e ≡ b → AllByRecursion (λ x. t x ≡ true) (filter t es) → AllByRecursion (λ x. t x ≡ true) (cond b (e ∷ filter t es) (filter t es))
    by true q ih = (q, ih)
    by false q ih = ih

all_pass : (t : Entry → Bool) (es : Entries) → AllByRecursion (λ e. t e ≡ true) es → filter t es ≡ es
all_pass t [] h = refl
all_pass t (e ∷ es) h = ap (λ b. cond b (e ∷ filter t es) (filter t es)) h.0 ∙ ap (λ (l : Entries). e ∷ l) (all_pass t es h.1)

none_pass : (t : Entry → Bool) (es : Entries) → AllByRecursion (λ e. t e ≡ false) es → filter t es ≡ []
none_pass t [] h = refl
none_pass t (e ∷ es) h = ap (λ b. cond b (e ∷ filter t es) (filter t es)) h.0 ∙ none_pass t es h.1

pass_twice : (t s : Entry → Bool) → ((e : Entry) → t e ≡ true → s e ≡ true) → (es : Entries) → filter t (filter s es) ≡ filter t es
pass_twice t s more [] = refl
pass_twice t s more (e ∷ es) = by (s e) refl (pass_twice t s more es)
  where
    out : (b : Bool) → t e ≡ b → s e ≡ false → filter t es ≡ cond b (e ∷ filter t es) (filter t es)
    out true q f = absurd (true≢false (sym (more e q) ∙ f))
    out false q f = refl

    by : (b : Bool) → s e ≡ b → filter t (filter s es) ≡ filter t es
        → filter t (cond b (e ∷ filter s es) (filter s es)) ≡ cond (t e) (e ∷ filter t es) (filter t es)
    by true q rest = ap (λ (l : Entries). cond (t e) (e ∷ l) l) rest
    by false q rest = rest ∙ out (t e) refl q

same_pass : (t s : Entry → Bool) (es : Entries) → AllByRecursion (λ e. t e ≡ s e) es → filter t es ≡ filter s es
same_pass t s [] h = refl
same_pass t s (e ∷ es) h = (λ i. cond (h.0 i) (e ∷ same_pass t s es h.1 i) (same_pass t s es h.1 i))

same_any : (t s : Entry → Bool) (es : Entries) → AllByRecursion (λ e. t e ≡ s e) es → list_any t es ≡ list_any s es
same_any t s [] h = refl
same_any t s (e ∷ es) h = (λ i. h.0 i || same_any t s es h.1 i)

any_passes : (t : Entry → Bool) (es : Entries) → list_any t es ≡ is_some (none_or (filter t es))
any_passes t [] = refl
any_passes t (e ∷ es) = by (t e) (any_passes t es)
  where
    by : (b : Bool) → list_any t es ≡ is_some (none_or (filter t es)) → (b || list_any t es) ≡ is_some (none_or (cond b (e ∷ filter t es) (filter t es)))
    by true ih = refl
    by false ih = ih

each : {P Q : Entry → Type 0} → ((e : Entry) → P e → Q e) → (es : Entries) → AllByRecursion P es → AllByRecursion Q es
each f [] h = tt
each f (e ∷ es) h = (f e h.0, each f es h.1)

keys_pass : (t : Path → Bool) (es : Entries) → keys_of (filter (λ e. t e.0) es) ≡ filter t (keys_of es)
keys_pass t [] = refl
keys_pass t (e ∷ es) = by (t e.0) (keys_pass t es)
  where
    by : (b : Bool) → keys_of (filter (λ f. t f.0) es) ≡ filter t (keys_of es)
        → keys_of (cond b (e ∷ filter (λ f. t f.0) es) (filter (λ f. t f.0) es)) ≡ cond b (e.0 ∷ filter t (keys_of es)) (filter t (keys_of es))
    by true rest = ap (λ (l : List Path). e.0 ∷ l) rest
    by false rest = rest

-- ---- a part

pub whole_part : (es sorted : Entries) → IsPermutation es sorted → IsStrictlySortedBy path_cmp (keys_of sorted) → IsPart es (is_within []) sorted
whole_part es sorted same ordered =
    record { sorted = sorted; same = same; ordered = ordered; is = sym (all_pass (λ e. true) sorted (each (λ e h. refl) sorted (any sorted))) }
  where
    any : (xs : Entries) → AllByRecursion (λ e. Unit {0}) xs
    any [] = tt
    any (x ∷ xs) = (tt, any xs)

pub has_part : (es : Entries) (t : Path → Bool) (part : Entries) → IsPart es t part → list_any (λ e. t e.0) es ≡ is_some (none_or part)
has_part es t part h =
    list_any-IsPermutation (λ e. t e.0) es h.sorted h.same ∙ any_passes (λ e. t e.0) h.sorted
    ∙ ap (λ (l : Entries). is_some (none_or l)) (sym h.is)

-- what passes a narrower test is the part of that test
narrower : (es : Entries) (t s : Path → Bool) (part : Entries) → IsPart es s part → ((q : Path) → t q ≡ true → s q ≡ true)
    → IsPart es t (filter (λ e. t e.0) part)
narrower es t s part h more = record {
  sorted = h.sorted;
  same = h.same;
  ordered = h.ordered;
  is = ap (filter (λ e. t e.0)) h.is ∙ pass_twice (λ e. t e.0) (λ e. s e.0) (λ e. more e.0) h.sorted;
}

in_order : (es : Entries) (t : Path → Bool) (part : Entries) → IsPart es t part → IsStrictlySortedBy path_cmp (keys_of part)
in_order es t part h =
    subst (λ (l : Entries). IsStrictlySortedBy path_cmp (keys_of l)) (sym h.is)
    (subst (IsStrictlySortedBy path_cmp) (sym (keys_pass t h.sorted)) (IsStrictlySortedBy-filter path_cmp t (keys_of h.sorted) h.ordered))

all_in : (es : Entries) (t : Path → Bool) (part : Entries) → IsPart es t part → AllByRecursion (λ e. t e.0 ≡ true) part
all_in es t part h = subst (AllByRecursion (λ e. t e.0 ≡ true)) (sym h.is) (passes (λ e. t e.0) h.sorted)

-- ---- the path's own entry, and those below

module _ (es : Entries) (lawful : AreLawfulEntries es) (p : Path) where
  -- each entry of a part is the one at its path
  there : (t : Path → Bool) (part : Entries) → IsPart es t part → All (λ e. entry_at es e.0 ≡ Some e.1) part
  there t part h =
      subst (All (λ e. entry_at es e.0 ≡ Some e.1)) (sym h.is)
      (All-filter (λ e. t e.0) (λ e. entry_at es e.0 ≡ Some e.1) h.sorted
      (All-permutation (λ e. entry_at es e.0 ≡ Some e.1) es h.sorted h.same
      (λ k d l. lawful.each_once k _ (slice_get-get_or es k d l))))

  none_at : (fs : Entries) → list_any (λ e. path_eq e.0 p) fs ≡ false → entry_at fs p ≡ None
  none_at [] h = refl
  none_at (f ∷ fs) h = by (path_eq f.0 p) h (none_at fs)
    where
      by : (b : Bool) → (b || list_any (λ e. path_eq e.0 p) fs) ≡ false → (list_any (λ e. path_eq e.0 p) fs ≡ false → entry_at fs p ≡ None)
          → cond b (Some f.1) (entry_at fs p) ≡ None
      by true q rest = absurd (true≢false q)
      by false q rest = rest q

  -- an entry after the path, at or below which it is, is below it
  below : (e : Entry) → is_within p e.0 ≡ true → path_cmp p e.0 ≡ Less → is_below p e.0 ≡ true
  below e w l = below_from p e.0 w (before_apart p e.0 l)

  all_below : (fs : Entries) → AllByRecursion (λ e. is_within p e.0 ≡ true) fs → AllByRecursion (λ q. path_cmp p q ≡ Less) (keys_of fs)
      → AllByRecursion (λ e. is_below p e.0 ≡ true) fs
  all_below [] w l = tt
  all_below (f ∷ fs) w l = (below f w.0 l.0, all_below fs w.1 l.1)

  after : (q : Path) (fs : Entries) → path_cmp p q ≡ Less → AllByRecursion (λ r. path_cmp q r ≡ Less) (keys_of fs)
      → AllByRecursion (λ r. path_cmp p r ≡ Less) (keys_of fs)
  after q [] l h = tt
  after q (f ∷ fs) l h = (paths_total.trans p q f.0 l h.0, after q fs l h.1)

  others : (part : Entries) → IsPart es (is_within p) part → (rest : Entries) → filter (λ e. is_below p e.0) part ≡ rest → IsPart es (is_below p) rest
  others part h rest e =
      subst (IsPart es (is_below p)) e (narrower es (is_below p) (is_within p) part h (λ q b. (below_parts p q b).0))

  own_and_others : (part : Entries) → IsPart es (is_within p) part → (entry_at es p ≡ own_entry p part) × IsPart es (is_below p) (without_own p part)
  own_and_others [] h = (
    none_at es
        (has_part es (λ q. path_eq q p) [] (narrower es (λ q. path_eq q p) (is_within p) [] h
        (λ q e. ap (is_within p) (same_path q p e) ∙ is_within-same p))),
    others [] h [] refl,
  )
  own_and_others (e ∷ part) h = by (path_eq e.0 p) refl
    where
      sorted : IsStrictlySortedBy path_cmp (keys_of (e ∷ part))
      sorted = in_order es (is_within p) (e ∷ part) h

      within : AllByRecursion (λ f. is_within p f.0 ≡ true) (e ∷ part)
      within = all_in es (is_within p) (e ∷ part) h

      behind : AllByRecursion (λ q. path_cmp e.0 q ≡ Less) (keys_of part)
      behind = sorted_head path_cmp e.0 (keys_of part) sorted

      by : (b : Bool) → path_eq e.0 p ≡ b
          → (entry_at es p ≡ cond b (Some e.1) None) × IsPart es (is_below p) (cond b part (e ∷ part))
      by true q =
          let same : e.0 ≡ p = same_path e.0 p q in
          let lower = all_below part within.1 (subst (λ (r : Path). AllByRecursion (λ s. path_cmp r s ≡ Less) (keys_of part)) same behind) in (
            ap (entry_at es) (sym same) ∙ there (is_within p) (e ∷ part) h 0 e (omega arith),
            others (e ∷ part) h part
                (ap (λ b. cond b (e ∷ filter (λ f. is_below p f.0) part) (filter (λ f. is_below p f.0) part)) (not_below e.0 same)
                ∙ all_pass (λ f. is_below p f.0) part lower),
          )
        where
          not_below : (r : Path) → r ≡ p → is_below p r ≡ false
          not_below r s =
              ap (is_below p) s ∙ ap (λ b. is_within p p && not b) (path_eq-same p) ∙ never (is_within p p)
            where
              never : (b : Bool) → (b && false) ≡ false
              never true = refl
              never false = refl
      by false q =
          let first : path_cmp p e.0 ≡ Less = below_after p e.0 within.0 (path_eq-symm p e.0 ∙ q) in
          let lower : AllByRecursion (λ f. is_below p f.0 ≡ true) (e ∷ part) =
          (below e within.0 first, all_below part within.1 (after e.0 part first behind)) in (
            none_at es
                (has_part es (λ r. path_eq r p) [] (subst (IsPart es (λ r. path_eq r p))
                (none_pass (λ f. path_eq f.0 p) (e ∷ part)
                (each (λ f b. path_eq-symm f.0 p ∙ (below_parts p f.0 b).1) (e ∷ part) lower))
                (narrower es (λ r. path_eq r p) (is_within p) (e ∷ part) h
                (λ r s. ap (is_within p) (same_path r p s) ∙ is_within-same p)))),
            others (e ∷ part) h (e ∷ part) (all_pass (λ f. is_below p f.0) (e ∷ part) lower),
          )

  pub own_is : (part : Entries) → IsPart es (is_within p) part → entry_at es p ≡ own_entry p part
  own_is part h = (own_and_others part h).0

  pub others_are : (part : Entries) → IsPart es (is_within p) part → IsPart es (is_below p) (without_own p part)
  others_are part h = (own_and_others part h).1

-- the same of a path that is reported otherwise, and of what is returned
pub own_part : (es : Entries) → AreLawfulEntries es → (p : Path) (part : Entries) → IsPart es (is_within p) part → (q r : Path)
    (own : Option ReportEntry) (rest : Entries) → q ≡ p → r ≡ q → own ≡ own_entry q part → rest ≡ without_own q part
    → (own ≡ entry_at es q) × IsPart es (is_below r) rest
own_part es lawful p part h q r own rest e f o w =
    let part_of : IsPart es (is_within q) part = subst (λ (s : Path). IsPart es (is_within s) part) (sym e) h in (
      o ∙ sym (own_is es lawful q part part_of),
      subst (λ (s : Path). IsPart es (is_below s) rest) (sym f) (subst (IsPart es (is_below q)) (sym w) (others_are es lawful q part part_of)),
    )

-- ---- a part below a path, name by name

name_deeper : (p q : Path) → is_below p q ≡ true → length p < length q
name_deeper [] [] h = absurd (true≢false (sym h))
name_deeper [] (n ∷ q) h = omega arith
name_deeper (m ∷ p) [] h = absurd (true≢false (sym h))
name_deeper (m ∷ p) (n ∷ q) h = by (bytes_eq m n) h (name_deeper p q)
  where
    by : (b : Bool) → ((b && is_within p q) && not (b && path_eq p q)) ≡ true → (is_below p q ≡ true → length p < length q)
        → length (m ∷ p) < length (n ∷ q)
    by true k rest = let less : length p < length q = rest k in omega (arith, less)
    by false k rest = absurd (true≢false (sym k))

name_is : (p q : Path) (m : Name) → is_below p q ≡ true → bytes_eq (name_at (length p) q) m ≡ is_within (child p m) q
name_is [] [] m h = absurd (true≢false (sym h))
name_is [] (n ∷ q) m h = bytes_eq-symm n m ∙ by (bytes_eq m n)
  where
    by : (b : Bool) → b ≡ (b && true)
    by true = refl
    by false = refl
name_is (k ∷ p) [] m h = absurd (true≢false (sym h))
name_is (k ∷ p) (n ∷ q) m h = by (bytes_eq k n) h (name_is p q m)
  where
    by : (b : Bool) → ((b && is_within p q) && not (b && path_eq p q)) ≡ true
        → (is_below p q ≡ true → bytes_eq (name_at (length p) q) m ≡ is_within (child p m) q)
        → bytes_eq (name_at (length p) q) m ≡ (b && is_within (child p m) q)
    by true h rest = rest h
    by false h rest = absurd (true≢false (sym h))

-- of two paths below the path the earlier one has the earlier name, or the same
name_before : (p q r : Path) → is_below p q ≡ true → is_below p r ≡ true → path_cmp q r ≡ Less
    → bytes_eq (name_at (length p) r) (name_at (length p) q) ≡ false → name_cmp (name_at (length p) q) (name_at (length p) r) ≡ Less
name_before [] [] r h k l d = absurd (true≢false (sym h))
name_before [] (m ∷ q) [] h k l d = absurd (true≢false (sym k))
name_before [] (m ∷ q) (n ∷ r) h k l d = by (name_cmp m n) refl l
  where
    by : (o : Ordering) → name_cmp m n ≡ o → ordering_then o (path_cmp q r) ≡ Less → o ≡ Less
    by Less e l = refl
    by Equal e l = absurd (true≢false (sym (ap (λ (x : Name). bytes_eq n x) (same_name m n e) ∙ bytes_eq-same n) ∙ d))
    by Greater e l = l
name_before (k ∷ p) [] r h j l d = absurd (true≢false (sym h))
name_before (k ∷ p) (m ∷ q) [] h j l d = absurd (true≢false (sym j))
name_before (k ∷ p) (m ∷ q) (n ∷ r) h j l d = by (bytes_eq k m) refl (bytes_eq k n) refl h j (name_before p q r)
  where
    by : (a : Bool) → bytes_eq k m ≡ a → (b : Bool) → bytes_eq k n ≡ b → ((a && is_within p q) && not (a && path_eq p q)) ≡ true
        → ((b && is_within p r) && not (b && path_eq p r)) ≡ true
        → (is_below p q ≡ true → is_below p r ≡ true → path_cmp q r ≡ Less
        → bytes_eq (name_at (length p) r) (name_at (length p) q) ≡ false → name_cmp (name_at (length p) q) (name_at (length p) r) ≡ Less)
        → name_cmp (name_at (length p) q) (name_at (length p) r) ≡ Less
    by false e b f h j rest = absurd (true≢false (sym h))
    by true e false f h j rest = absurd (true≢false (sym j))
    by true e true f h j rest =
        rest h j
        (ap (λ o. ordering_then o (path_cmp q r)) (sym (ap (λ (x : Name). name_cmp x n) (sym (same_bytes k m e))
        ∙ ap (name_cmp k) (sym (same_bytes k n f)) ∙ name_cmp-same k))
        ∙ l)
        d

module _ (es : Entries) (p : Path) (part : Entries) (h : IsPart es (is_below p) part) where
  lower : AllByRecursion (λ e. is_below p e.0 ≡ true) part
  lower = all_in es (is_below p) part h

  pub deeper : AreDeeper (length p) part
  deeper = each (λ e b. name_deeper p e.0 b) part lower

  -- the names are in order
  ordered : (fs : Entries) → AllByRecursion (λ e. is_below p e.0 ≡ true) fs → IsStrictlySortedBy path_cmp (keys_of fs)
      → Ordered (keys_of (by_name (length p) fs))
  ordered [] b s = tt
  ordered (e ∷ []) b s = (refl, tt)
  ordered (e ∷ f ∷ fs) b s =
      by (by_name (length p) (f ∷ fs)) (first_is (length p) f fs) (ordered (f ∷ fs) b.1 (sorted_tail path_cmp e.0 (keys_of (f ∷ fs)) s))
    where
      a : Name
      a = name_at (length p) e.0

      by : (gs : Named) → first_key gs ≡ Some (name_at (length p) f.0) → Ordered (keys_of gs) → Ordered (keys_of (with_entry a e gs))
      by [] k o = (refl, tt)
      by (g ∷ gs) k o = at (bytes_eq g.0 a) refl
        where
          named : g.0 ≡ name_at (length p) f.0
          named = ap (λ (x : Option Name). unwrap_or x g.0) k

          at : (c : Bool) → bytes_eq g.0 a ≡ c → Ordered (keys_of (cond c ((g.0, e ∷ g.1) ∷ gs) ((a, e ∷ []) ∷ g ∷ gs)))
          at true q = o
          at false q =
              let before : name_cmp a g.0 ≡ Less =
              ap (name_cmp a) named
              ∙ name_before p e.0 f.0 b.0 b.1.0 (sorted_head path_cmp e.0 (keys_of (f ∷ fs)) s).0
              (ap (λ (x : Name). bytes_eq x a) (sym named) ∙ q) in
              (all_after a g.0 (keys_of gs) before o, o)

  pub names_ordered : Ordered (keys_of (by_name (length p) part))
  names_ordered = ordered part lower (in_order es (is_below p) part h)

  same_test : (m : Name) → AllByRecursion (λ e. has_at (length p) m e ≡ is_within (child p m) e.0) part
  same_test m = each (λ e b. name_is p e.0 m b) part lower

  more : (m : Name) (q : Path) → is_within (child p m) q ≡ true → is_below p q ≡ true
  more m q w = let parts = below_from_child p q m w in below_from p q parts.0 parts.1

  -- what is under a name is the part at or below the child
  pub part_under : (m : Name) → IsPart es (is_within (child p m)) (entries_under (by_name (length p) part) m)
  part_under m =
      subst (IsPart es (is_within (child p m)))
      (sym (under_is (length p) m part names_ordered ∙ same_pass (has_at (length p) m) (λ e. is_within (child p m) e.0) part (same_test m)))
      (narrower es (is_within (child p m)) (is_below p) part h (more m))

  pub part_named : (m : Name) → has_name (keys_of (by_name (length p) part)) m ≡ has_entry_within es (child p m)
  part_named m =
      has_under (length p) m part ∙ same_any (has_at (length p) m) (λ e. is_within (child p m) e.0) part (same_test m)
      ∙ any_passes (λ e. is_within (child p m) e.0) part
      ∙ sym (has_part es (is_within (child p m)) (filter (λ e. is_within (child p m) e.0) part)
      (narrower es (is_within (child p m)) (is_below p) part h (more m)))

-- ---- whether nothing is reported

pub nothing_in : (es : Entries) (t : Path → Bool) (part : Entries) → IsPart es t part → part ≡ [] → list_any (λ e. t e.0) es ≡ false
nothing_in es t part h e = has_part es t part h ∙ ap (λ (l : Entries). is_some (none_or l)) e

pub something_in : (es : Entries) (t : Path → Bool) (part : Entries) → IsPart es t part → (part ≡ [] → ⊥) → list_any (λ e. t e.0) es ≡ true
something_in es t part h n = has_part es t part h ∙ by part n
  where
    by : (l : Entries) → (l ≡ [] → ⊥) → is_some (none_or l) ≡ true
    by [] n = absurd (n refl)
    by (e ∷ l) n = refl

pub something_told : (es : Entries) (t : Path → Bool) (part : Entries) → IsPart es t part → (b : Bool) → (b ≡ true → part ≡ [])
    → (part ≡ [] → b ≡ true) → not b ≡ list_any (λ e. t e.0) es
something_told es t part h true f g = sym (nothing_in es t part h (f refl))
something_told es t part h false f g = sym (something_in es t part h (λ e. true≢false (sym (g e))))
