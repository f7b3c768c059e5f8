-- A part of a report, cut by the names at a depth.
--     first_is      the first name is that of the first entry
--     has_under      a name is one of the names where an entry has it
--     under_is      under a name are the entries that have it
--     cut_first, cut_one      those that come first with one name, and the others cut by theirs
--     parts, cut_at      where the names are in order, the entries of the first name are found by a search
use Rattle.std.proofs.Common.{◌≡◌, ◌≢◌, ℕ, zero, suc, ◌<◌, ◌≤◌, Bool, true, false, ◌||◌, cond, List, [], ◌∷◌, length, take, refl, sym, ◌∙◌}
use Rattle.std.proofs.Common.{ap}
use Rattle.std.proofs.Common.{subst, arith, true≢false, get_or}
use Rattle.std.specs.Prelude.{Option, Some, None, drop, map, bytes_eq, slice_get, unwrap_or}
use Rattle.std.specs.Option.{option_map_or}
use Rattle.std.specs.List.{AllByRecursion, filter, list_any}
use Rattle.std.specs.List.Sorted.{IsPartitionPoint, IsPartitionedBy}
use Rattle.std.specs.Map.{keys_of}
use Rattle.std.specs.BTreeSet.{insert_key}
use Rattle.std.specs.declared.cmp.Ordering.TheVariants.{Less}
use Rattle.std.specs.Ordering.{match_ordering}
use Rattle.std.proofs.lemmas.List.{length-map}
use Rattle.std.proofs.lemmas.Option.{slice_get-get_or, same_Some}
use Rattle.svn_lists.proofs.Equality.{bytes_eq-same, same_bytes}
use Rattle.svn_types.specs.Names.{Path, name_cmp}
use Rattle.svn_types.specs.Pairs.{value_of}
use Rattle.svn_types.proofs.NameLemmas.{Name, has_name, value_of-first, no_name_no_value}
use Rattle.svn_report.specs.declared.entry.ReportEntry.{ReportEntry}
use Rattle.svn_report.specs.Reports.{Entries}
use Rattle.law_drive.proofs.Ways.{not_before, Ordered, ordered-fold, ordered_apart}
use Rattle.svn_drive.specs.Firsts.{InOrder, first_key}
use Rattle.svn_drive.specs.Parts.{AreDeeper, Named, by_name, entries_under, name_at, with_entry}

-- ---- names in their order

pub ordered_of : (ns : List Name) → InOrder ns → Ordered ns
ordered_of ns e = subst Ordered e (ordered-fold ns [] tt)

-- a name before the first one is before all
pub all_after : (n k : Name) (ms : List Name) → name_cmp n k ≡ Less → Ordered (k ∷ ms) → list_any (not_before n) (k ∷ ms) ≡ false
all_after n k ms e h =
    (subst (λ o. Ordered (match_ordering o (n ∷ k ∷ ms) (k ∷ ms) (k ∷ insert_key name_cmp ms n))) e (ordered-fold (n ∷ []) (k ∷ ms) h)).0

-- ---- the names

abbrev pub has_at : ℕ → Name → Path × ReportEntry → Bool
has_at n m e = bytes_eq (name_at n e.0) m

-- an entry with another name than the first has a name of its own
apart_from : (a : Name) (e : Path × ReportEntry) (gs : Named) → first_key gs ≢ Some a → with_entry a e gs ≡ (a, e ∷ []) ∷ gs
apart_from a e [] h = refl
apart_from a e (g ∷ gs) h = by (bytes_eq g.0 a) refl
  where
    by : (b : Bool) → bytes_eq g.0 a ≡ b → cond b ((g.0, e ∷ g.1) ∷ gs) ((a, e ∷ []) ∷ g ∷ gs) ≡ (a, e ∷ []) ∷ g ∷ gs
    by true q = absurd (h (ap Some (same_bytes g.0 a q)))
    by false q = refl

pub first_is : (n : ℕ) (e : Path × ReportEntry) (es : Entries) → first_key (by_name n (e ∷ es)) ≡ Some (name_at n e.0)
first_is n e es = by (by_name n es)
  where
    by : (gs : Named) → first_key (with_entry (name_at n e.0) e gs) ≡ Some (name_at n e.0)
    by [] = refl
    by (g ∷ gs) = at (bytes_eq g.0 (name_at n e.0)) refl
      where
        at : (b : Bool) → bytes_eq g.0 (name_at n e.0) ≡ b
            → first_key (cond b ((g.0, e ∷ g.1) ∷ gs) ((name_at n e.0, e ∷ []) ∷ g ∷ gs)) ≡ Some (name_at n e.0)
        at true q = ap Some (same_bytes g.0 (name_at n e.0) q)
        at false q = refl

or-twice : (a b : Bool) → (a || b) ≡ (a || (a || b))
or-twice true b = refl
or-twice false b = refl

pub has_under : (n : ℕ) (m : Name) (es : Entries) → has_name (keys_of (by_name n es)) m ≡ list_any (has_at n m) es
has_under n m [] = refl
has_under n m (e ∷ es) = put (by_name n es) ∙ ap (λ b. has_at n m e || b) (has_under n m es)
  where
    put : (gs : Named) → has_name (keys_of (with_entry (name_at n e.0) e gs)) m ≡ (has_at n m e || has_name (keys_of gs) m)
    put [] = refl
    put (g ∷ gs) = at (bytes_eq g.0 (name_at n e.0)) refl
      where
        at : (b : Bool) → bytes_eq g.0 (name_at n e.0) ≡ b
            → has_name (keys_of (cond b ((g.0, e ∷ g.1) ∷ gs) ((name_at n e.0, e ∷ []) ∷ g ∷ gs))) m
            ≡ (has_at n m e || (bytes_eq g.0 m || has_name (keys_of gs) m))
        at true q =
            let same : bytes_eq g.0 m ≡ has_at n m e = ap (λ (x : Name). bytes_eq x m) (same_bytes g.0 (name_at n e.0) q) in
            ap (λ b. b || has_name (keys_of gs) m) same ∙ or-twice (has_at n m e) (has_name (keys_of gs) m)
            ∙ ap (λ b. has_at n m e || (b || has_name (keys_of gs) m)) (sym same)
        at false q = refl

-- ---- the entries under a name

under_first : (k : Name) (g : Entries) (gs : Named) (m : Name)
    → entries_under ((k, g) ∷ gs) m ≡ cond (bytes_eq k m) g (entries_under gs m)
under_first k g gs m = ap (λ (o : Option Entries). unwrap_or o []) (value_of-first (k, g) gs m) ∙ by (bytes_eq k m)
  where
    by : (b : Bool) → unwrap_or (cond b (Some g) (value_of gs m)) [] ≡ cond b g (entries_under gs m)
    by true = refl
    by false = refl

none_under : (gs : Named) (m : Name) → has_name (keys_of gs) m ≡ false → entries_under gs m ≡ []
none_under gs m h = ap (λ (o : Option Entries). unwrap_or o []) (no_name_no_value gs m h)

pub under_is : (n : ℕ) (m : Name) (es : Entries) → Ordered (keys_of (by_name n es)) → entries_under (by_name n es) m ≡ filter (has_at n m) es
under_is n m [] h = refl
under_is n m (e ∷ es) h = put (by_name n es) h (under_is n m es)
  where
    a : Name
    a = name_at n e.0

    rest : Entries
    rest = filter (has_at n m) es

    put : (gs : Named) → Ordered (keys_of (with_entry a e gs)) → (Ordered (keys_of gs) → entries_under gs m ≡ rest)
        → entries_under (with_entry a e gs) m ≡ cond (bytes_eq a m) (e ∷ rest) rest
    put [] o ih = under_first a (e ∷ []) [] m ∙ by (bytes_eq a m)
      where
        by : (b : Bool) → cond b (e ∷ []) [] ≡ cond b (e ∷ rest) rest
        by true = ap (λ (l : Entries). e ∷ l) (ih tt)
        by false = ih tt
    put (g ∷ gs) o ih = at (bytes_eq g.0 a) refl o
      where
        at : (b : Bool) → bytes_eq g.0 a ≡ b → Ordered (keys_of (cond b ((g.0, e ∷ g.1) ∷ gs) ((a, e ∷ []) ∷ g ∷ gs)))
            → entries_under (cond b ((g.0, e ∷ g.1) ∷ gs) ((a, e ∷ []) ∷ g ∷ gs)) m ≡ cond (bytes_eq a m) (e ∷ rest) rest
        at true q o =
            under_first g.0 (e ∷ g.1) gs m ∙ ap (λ (x : Name). cond (bytes_eq x m) (e ∷ g.1) (entries_under gs m)) (same_bytes g.0 a q)
            ∙ by (bytes_eq a m) (sym (under_first g.0 g.1 gs m
            ∙ ap (λ (x : Name). cond (bytes_eq x m) g.1 (entries_under gs m)) (same_bytes g.0 a q)) ∙ ih o)
          where
            by : (b : Bool) → cond b g.1 (entries_under gs m) ≡ rest → cond b (e ∷ g.1) (entries_under gs m) ≡ cond b (e ∷ rest) rest
            by true s = ap (λ (l : Entries). e ∷ l) s
            by false s = s
        at false q o = under_first a (e ∷ []) (g ∷ gs) m ∙ by (bytes_eq a m) refl
          where
            by : (b : Bool) → bytes_eq a m ≡ b → cond b (e ∷ []) (entries_under (g ∷ gs) m) ≡ cond b (e ∷ rest) rest
            by true s =
                let none : has_name (keys_of (g ∷ gs)) m ≡ false =
                ap (has_name (keys_of (g ∷ gs))) (sym (same_bytes a m s)) ∙ ordered_apart a (keys_of (g ∷ gs)) o.0 in
                ap (λ (l : Entries). e ∷ l) (sym (none_under (g ∷ gs) m none) ∙ ih o.1)
            by false s = ih o.1

-- ---- the first are taken

-- the first has another name
abbrev pub IsApart : ℕ → Name → Entries → Type 0
IsApart n m [] = Unit {0}
IsApart n m (e ∷ es) = has_at n m e ≡ false

another_first : (n : ℕ) (m : Name) (es : Entries) → IsApart n m es → first_key (by_name n es) ≢ Some m
another_first n m [] h q = none q
  where
    none : None ≡ Some m → ⊥
    none z = cc
another_first n m (e ∷ es) h q =
    true≢false (sym (ap (λ (o : Option Name). bytes_eq (unwrap_or o m) m) (sym (first_is n e es) ∙ q) ∙ bytes_eq-same m) ∙ h)

pub cut_first : (n : ℕ) (m : Name) (es : Entries) (i : ℕ) → 0 < i → i ≤ length es → AllByRecursion (λ e. has_at n m e ≡ true) (take i es)
    → IsApart n m (drop i es) → by_name n es ≡ (m, take i es) ∷ by_name n (drop i es)
cut_first n m es zero some bound named apart = absurd (omega (arith, some))
cut_first n m [] (suc i) some bound named apart = absurd (omega (arith, bound))
cut_first n m (e ∷ es) (suc zero) some bound named apart =
    ap (λ (x : Name). with_entry x e (by_name n es)) (same_bytes (name_at n e.0) m named.0)
    ∙ apart_from m e (by_name n es) (another_first n m es apart)
cut_first n m (e ∷ es) (suc (suc i)) some bound named apart =
    ap (λ (x : Name). with_entry x e (by_name n es)) (same_bytes (name_at n e.0) m named.0)
    ∙ ap (with_entry m e) (cut_first n m es (suc i) (omega arith) (omega (arith, bound)) named.1 apart)
    ∙ ap
    (λ b. cond b ((m, e ∷ take (suc i) es) ∷ by_name n (drop (suc i) es))
    ((m, e ∷ []) ∷ (m, take (suc i) es) ∷ by_name n (drop (suc i) es)))
    (bytes_eq-same m)

-- the first name, as it is looked up
pub first_named : {X : Type 0} (shows : X → Path × ReportEntry) (n : ℕ) (xs : List X) (x : X) → Some x ≡ slice_get xs 0
    → AreDeeper n (map shows xs) → slice_get (shows x).0 n ≡ first_key (by_name n (map shows xs))
first_named shows n [] x e d = absurd (none e)
  where
    none : Some x ≡ None → ⊥
    none z = cc
first_named shows n (y ∷ xs) x e d =
    ap (λ z. slice_get (shows z).0 n) (same_Some x y e) ∙ slice_get-get_or (shows y).0 n [] d.0 ∙ sym (first_is n (shows y) (map shows xs))

-- ---- they are found by a search

-- whether a path has the name, as it is looked for
abbrev pub says : ℕ → Name → Path → Bool
says n m q = option_map_or (λ k. bytes_eq k m) (slice_get q n) false

said : (n : ℕ) (m : Name) (e : Path × ReportEntry) → n < length e.0 → says n m e.0 ≡ has_at n m e
said n m e l = ap (λ (o : Option Name). option_map_or (λ k. bytes_eq k m) o false) (slice_get-get_or e.0 n [] l)

module _ {X : Type 0} (shows : X → Path × ReportEntry) (n : ℕ) (m : Name) where
  deeper_at : (xs : List X) → AreDeeper n (map shows xs) → (k : ℕ) (d : X) → k < length xs → n < length (shows (get_or xs k d)).0
  deeper_at [] h k d l = absurd (omega (arith, l))
  deeper_at (x ∷ xs) h zero d l = h.0
  deeper_at (x ∷ xs) h (suc k) d l = deeper_at xs h.1 k d (omega (arith, l))

  none_later : (xs : List X) → list_any (has_at n m) (map shows xs) ≡ false → (j : ℕ) (d : X) → j < length xs
      → has_at n m (shows (get_or xs j d)) ≡ true → ⊥
  none_later [] h j d l t = omega (arith, l)
  none_later (x ∷ xs) h zero d l t = true≢false (sym (ap (λ b. b || list_any (has_at n m) (map shows xs)) t) ∙ h)
  none_later (x ∷ xs) h (suc j) d l t = none_later xs (by (has_at n m (shows x)) h) j d (omega (arith, l)) t
    where
      by : (b : Bool) → (b || list_any (has_at n m) (map shows xs)) ≡ false → list_any (has_at n m) (map shows xs) ≡ false
      by true q = absurd (true≢false q)
      by false q = q

  named_first : (x : X) (xs : List X) → first_key (by_name n (map shows (x ∷ xs))) ≡ Some m → name_at n (shows x).0 ≡ m
  named_first x xs f = ap (λ (k : Option Name). unwrap_or k m) (sym (first_is n (shows x) (map shows xs)) ∙ f)

  -- where the names are in order, the entries of the first come first
  parted : (xs : List X) → Ordered (keys_of (by_name n (map shows xs))) → first_key (by_name n (map shows xs)) ≡ Some m
      → (i j : ℕ) (d : X) → i ≤ j → j < length xs → has_at n m (shows (get_or xs j d)) ≡ true → has_at n m (shows (get_or xs i d)) ≡ true
  parted [] o f i j d le l t = absurd (omega (arith, l))
  parted (x ∷ xs) o f zero j d le l t = ap (λ (a : Name). bytes_eq a m) (named_first x xs f) ∙ bytes_eq-same m
  parted (x ∷ xs) o f (suc i) zero d le l t = absurd (omega (arith, le))
  parted (x ∷ xs) o f (suc i) (suc j) d le l t = by (by_name n (map shows xs)) refl o (parted xs)
    where
      a : Name
      a = name_at n (shows x).0

      absent : (gs : Named) → by_name n (map shows xs) ≡ gs → has_name (keys_of gs) m ≡ false → ⊥
      absent gs e h =
          none_later xs (sym (has_under n m (map shows xs)) ∙ ap (λ (hs : Named). has_name (keys_of hs) m) e ∙ h) j d (omega (arith, l)) t

      by : (gs : Named) → by_name n (map shows xs) ≡ gs → Ordered (keys_of (with_entry a (shows x) gs))
          → (Ordered (keys_of (by_name n (map shows xs))) → first_key (by_name n (map shows xs)) ≡ Some m
          → (i j : ℕ) (d : X) → i ≤ j → j < length xs → has_at n m (shows (get_or xs j d)) ≡ true
          → has_at n m (shows (get_or xs i d)) ≡ true)
          → has_at n m (shows (get_or xs i d)) ≡ true
      by [] e o ih = absurd (absent [] e refl)
      by (g ∷ gs) e o ih = at (bytes_eq g.0 a) refl o
        where
          at : (b : Bool) → bytes_eq g.0 a ≡ b → Ordered (keys_of (cond b ((g.0, shows x ∷ g.1) ∷ gs) ((a, shows x ∷ []) ∷ g ∷ gs)))
              → has_at n m (shows (get_or xs i d)) ≡ true
          at true q o =
              ih (subst (λ (hs : Named). Ordered (keys_of hs)) (sym e) o)
              (ap first_key e ∙ ap Some (same_bytes g.0 a q ∙ named_first x xs f)) i j d (omega (arith, le)) (omega (arith, l)) t
          at false q o =
              absurd (absent (g ∷ gs) e
              (ap (has_name (keys_of (g ∷ gs))) (sym (named_first x xs f)) ∙ ordered_apart a (keys_of (g ∷ gs)) o.0))

  front : (xs : List X) (i : ℕ) → i ≤ length xs → ((k : ℕ) (d : X) → k < i → has_at n m (shows (get_or xs k d)) ≡ true)
      → AllByRecursion (λ e. has_at n m e ≡ true) (take i (map shows xs))
  front xs zero bound h = tt
  front [] (suc i) bound h = absurd (omega (arith, bound))
  front (x ∷ xs) (suc i) bound h =
      (h zero x (omega arith), front xs i (omega (arith, bound)) (λ k d l. h (suc k) d (omega (arith, l))))

  back : (xs : List X) (i : ℕ) → ((k : ℕ) (d : X) → i ≤ k → k < length xs → has_at n m (shows (get_or xs k d)) ≡ false)
      → IsApart n m (drop i (map shows xs))
  back [] zero h = tt
  back [] (suc i) h = tt
  back (x ∷ xs) zero h = h zero x (omega arith) (omega arith)
  back (x ∷ xs) (suc i) h = back xs i (λ k d le l. h (suc k) d (omega (arith, le)) (omega (arith, l)))

  -- the first alone, where there is no other, or the next has another name
  pub cut_one : (xs : List X) → first_key (by_name n (map shows xs)) ≡ Some m → IsApart n m (drop 1 (map shows xs))
      → (1 ≤ length (map shows xs)) × (by_name n (map shows xs) ≡ (m, take 1 (map shows xs)) ∷ by_name n (drop 1 (map shows xs)))
  cut_one [] f apart = absurd (no_name f)
    where
      no_name : None ≡ Some m → ⊥
      no_name z = cc
  cut_one (x ∷ xs) f apart = (
    omega arith,
    cut_first n m (map shows (x ∷ xs)) 1 (omega arith) (omega arith)
        (ap (λ (a : Name). bytes_eq a m) (named_first x xs f) ∙ bytes_eq-same m, tt) apart,
  )

  -- the next, as it is looked up
  pub apart_none : (xs : List X) → length xs ≤ 1 → IsApart n m (drop 1 (map shows xs))
  apart_none [] l = tt
  apart_none (x ∷ []) l = tt
  apart_none (x ∷ y ∷ xs) l = absurd (omega (arith, l))

  pub apart_next : (xs : List X) (y : X) → 1 < length xs → y ≡ get_or xs 1 y → AreDeeper n (map shows xs) → says n m (shows y).0 ≡ false
      → IsApart n m (drop 1 (map shows xs))
  apart_next [] y l e d s = tt
  apart_next (x ∷ []) y l e d s = tt
  apart_next (x ∷ z ∷ xs) y l e d s =
      sym (said n m (shows z) d.1.0) ∙ ap (λ (u : X). says n m (shows u).0) (sym e) ∙ s

  module _ (xs : List X) (deeper : AreDeeper n (map shows xs)) (o : InOrder (keys_of (by_name n (map shows xs))))
      (f : first_key (by_name n (map shows xs)) ≡ Some m) where
    at : (k : ℕ) (d : X) → k < length xs → says n m (shows (get_or xs k d)).0 ≡ has_at n m (shows (get_or xs k d))
    at k d l = said n m (shows (get_or xs k d)) (deeper_at xs deeper k d l)

    pub parts : IsPartitionedBy (λ x. says n m (shows x).0) xs
    parts i j d le l t =
        at i d (omega (arith, le, l))
        ∙ parted xs (ordered_of (keys_of (by_name n (map shows xs))) o) f i j d le l (sym (at j d l) ∙ t)

    pub cut_at : (i : ℕ) → i ≤ length xs → IsPartitionPoint (λ x. says n m (shows x).0 ≡ true) (λ x. says n m (shows x).0 ≡ false) xs i
        → (0 < i) × (by_name n (map shows xs) ≡ (m, take i (map shows xs)) ∷ by_name n (drop i (map shows xs)))
    cut_at i bound point = (
      some,
      cut_first n m (map shows xs) i some (omega (arith, bound, length-map xs shows))
          (front xs i bound (λ k d l. sym (at k d (omega (arith, l, bound))) ∙ point.0 k d (omega arith) l))
          (back xs i (λ k d le l. sym (at k d l) ∙ point.1 k d le l)),
    )
      where
        some : 0 < i
        some = by xs refl i refl
          where
            by : (ys : List X) → xs ≡ ys → (k : ℕ) → i ≡ k → 0 < i
            by [] e k q = absurd (no_name (sym (ap (λ (l : List X). first_key (by_name n (map shows l))) e) ∙ f))
              where
                no_name : None ≡ Some m → ⊥
                no_name z = cc
            by (x ∷ ys) e zero q =
                let first : first_key (by_name n (map shows (x ∷ ys))) ≡ Some m =
                sym (ap (λ (l : List X). first_key (by_name n (map shows l))) e) ∙ f in
                let named : says n m (shows (get_or xs 0 x)).0 ≡ true =
                ap (λ (l : List X). says n m (shows (get_or l 0 x)).0) e
                ∙ said n m (shows x) (subst (λ (l : List X). AreDeeper n (map shows l)) e deeper).0
                ∙ ap (λ (a : Name). bytes_eq a m) (named_first x ys first) ∙ bytes_eq-same m in
                absurd (true≢false (sym named ∙ point.1 0 x (omega (arith, q)) (omega (arith, ap length e))))
            by (x ∷ ys) e (suc k) q = omega (arith, q)
