-- Entries in path order: what is next to a path, and after a name below one.
use Rattle.std.proofs.Common.{◌≡◌, ℕ, zero, suc, ◌<◌, ◌≤◌, Bool, true, false, ◌&&◌, not, cond, [], ◌∷◌, length, take, refl, sym, ◌∙◌, ap}
use Rattle.std.proofs.Common.{subst, arith, inl, inr, true≢false, get_or}
use Rattle.std.specs.Prelude.{◌+◌, ◌-◌, ◌++◌, ◌||◌, Option, Some, None, ◌⊎◌, is_some, bytes_eq, slice_get, option_map}
use Rattle.std.specs.List.Sorted.{IsPartitionPoint, IsPartitionedBy}
use Rattle.std.specs.declared.cmp.Ordering.{Ordering}
use Rattle.std.specs.declared.cmp.Ordering.TheVariants.{Less, Equal, Greater}
use Rattle.std.specs.Ordering.{is_le, is_lt, ordering_then, ordering_reverse, is_eq}
use Rattle.std.proofs.lemmas.Bool.{and_parts, cases_lt, not-false}
use Rattle.std.proofs.lemmas.List.{take_all}
use Rattle.std.proofs.lemmas.Option.{slice_get_within, slice_get-get_or, get_or_from_slice_get, same_Some}
use Rattle.std.specs.Cmp.Lexicographic.{texts_ties}
use Rattle.std.specs.Option.{option_to_list}
use Rattle.svn_lists.proofs.Options.{some-none}
use Rattle.svn_lists.proofs.Orderings.{less_from_is_lt}
use Rattle.svn_lists.proofs.Places.{slice_get_push_cases, take_next}
use Rattle.svn_types.specs.Names.{Path, name_cmp, path_cmp}
use Rattle.svn_types.specs.Paths.{path_eq, is_within, child}
use Rattle.svn_report.specs.declared.entry.ReportEntry.{ReportEntry}
use Rattle.svn_report.specs.Reports.{Entries, entry_at}
use Rattle.svn_report.specs.LawfulReports.{AreLawfulEntries}
use Rattle.svn_report.specs.ReportOrder.{InPathOrder, IsNextEntry, IsPreviousEntry, IsFirstAfter, ComesLast, has_entry, is_after_name}
use Rattle.svn_report.specs.ReportOrder.{is_ahead_of_name}
use Rattle.svn_types.proofs.NameLemmas.{Name, level_names}
use Rattle.svn_types.proofs.PathLemmas.{same_path}
use Rattle.svn_types.proofs.PathsInOrder.{paths_total, path_tie, not_before_itself, not_both, within_between}

-- where a path is that has an entry
pub place_of : (es : Entries) (q : Path) → has_entry es q ≡ true
    → (j : ℕ) × (e : Path × ReportEntry) × (slice_get es j ≡ Some e) × (e.0 ≡ q)
place_of [] q h = absurd (true≢false (sym h))
place_of (f ∷ es) q h = by (path_eq f.0 q) refl h (place_of es q)
  where
    by : (b : Bool) → path_eq f.0 q ≡ b → is_some (cond b (Some f.1) (entry_at es q)) ≡ true
        → (has_entry es q ≡ true → (j : ℕ) × (e : Path × ReportEntry) × (slice_get es j ≡ Some e) × (e.0 ≡ q))
        → (j : ℕ) × (e : Path × ReportEntry) × (slice_get (f ∷ es) j ≡ Some e) × (e.0 ≡ q)
    by true s h ih = (zero, f, refl, same_path f.0 q s)
    by false s h ih = let r = ih h in (suc r.0, r.1, r.2, r.3)

no_entry : (es : Entries) (k : ℕ) → slice_get es k ≡ None → k < length es → ⊥
no_entry [] k h l = omega (arith, l)
no_entry (e ∷ es) zero h l = some-none e h
no_entry (e ∷ es) (suc k) h l = no_entry es k h (omega (arith, l))

-- a test that holds before each path at which it holds parts the entries
pub parted : (es : Entries) (pred : Path → Bool) → InPathOrder es
    → ((x y : Path) → path_cmp x y ≡ Less → pred y ≡ true → pred x ≡ true) → IsPartitionedBy (λ e. pred e.0) es
parted es pred ordered before i j d le lt h = by (cases_lt i j)
  where
    by : (i < j) ⊎ (j ≤ i) → pred (get_or es i d).0 ≡ true
    by (inl l) =
        before (get_or es i d).0 (get_or es j d).0
        (ordered i j (get_or es i d) (get_or es j d) l (slice_get-get_or es i d (omega (arith, l, lt))) (slice_get-get_or es j d lt)) h
    by (inr l) = let same : i ≡ j = omega (arith, le, l) in ap (λ k. pred (get_or es k d).0) same ∙ h

-- ---- what a test says of the entries at its point

module _ (es : Entries) (pred : Path → Bool) (i : ℕ) (ordered : InPathOrder es) (lawful : AreLawfulEntries es)
    (point : IsPartitionPoint (λ e. pred e.0 ≡ true) (λ e. pred e.0 ≡ false) es i) where
  ahead : (j : ℕ) (e : Path × ReportEntry) → j < i → slice_get es j ≡ Some e → pred e.0 ≡ true
  ahead j e l h = sym (ap (λ (f : Path × ReportEntry). pred f.0) (get_or_from_slice_get es j e e h)) ∙ point.0 j e (omega arith) l

  behind : (j : ℕ) (e : Path × ReportEntry) → i ≤ j → slice_get es j ≡ Some e → pred e.0 ≡ false
  behind j e l h =
      sym (ap (λ (f : Path × ReportEntry). pred f.0) (get_or_from_slice_get es j e e h)) ∙ point.1 j e l (slice_get_within es j e h)

  there : (j : ℕ) (e : Path × ReportEntry) → slice_get es j ≡ Some e → has_entry es e.0 ≡ true
  there j e h = ap is_some (lawful.each_once j e h)

  -- an entry at a path that fails is at the point or after it, and one at a path that passes before it
  from_point : (q : Path) (j : ℕ) (e : Path × ReportEntry) → slice_get es j ≡ Some e → e.0 ≡ q → pred q ≡ false → i ≤ j
  from_point q j e g same f = by (cases_lt j i)
    where
      by : (j < i) ⊎ (i ≤ j) → i ≤ j
      by (inl l) = absurd (true≢false (sym (ahead j e l g) ∙ ap pred same ∙ f))
      by (inr l) = l

  before_point : (q : Path) (j : ℕ) (e : Path × ReportEntry) → slice_get es j ≡ Some e → e.0 ≡ q → pred q ≡ true → j < i
  before_point q j e g same t = by (cases_lt j i)
    where
      by : (j < i) ⊎ (i ≤ j) → j < i
      by (inl l) = l
      by (inr l) = absurd (true≢false (sym t ∙ sym (ap pred same) ∙ behind j e l g))

  -- of the entries that fail the first is at the point
  pub first_failing : (x : Path × ReportEntry) → slice_get es i ≡ Some x → (q : Path) → pred q ≡ false → has_entry es q ≡ true
      → path_cmp q x.0 ≡ Less → ⊥
  first_failing x h q f has l = by (cases_lt i r.0)
    where
      r : (j : ℕ) × (e : Path × ReportEntry) × (slice_get es j ≡ Some e) × (e.0 ≡ q)
      r = place_of es q has

      by : (i < r.0) ⊎ (r.0 ≤ i) → ⊥
      by (inl after) = not_both q x.0 l (ap (path_cmp x.0) (sym r.3) ∙ ordered i r.0 x r.1 after h r.2)
      by (inr upto) =
          let from = from_point q r.0 r.1 r.2 r.3 f in
          let same : i ≡ r.0 = omega (arith, upto, from) in
          let at = same_Some x r.1 (sym h ∙ ap (slice_get es) same ∙ r.2) in
          not_before_itself q (ap (path_cmp q) (sym (ap (λ (e : Path × ReportEntry). e.0) at ∙ r.3)) ∙ l)

  pub none_failing : slice_get es i ≡ None → (q : Path) → pred q ≡ false → has_entry es q ≡ false
  none_failing h q f = by (has_entry es q) refl
    where
      by : (b : Bool) → has_entry es q ≡ b → b ≡ false
      by true has =
          let r = place_of es q has in
          let from = from_point q r.0 r.1 r.2 r.3 f in
          let within = slice_get_within es r.0 r.1 r.2 in
          absurd (no_entry es i h (omega (arith, from, within)))
      by false has = refl

  -- of those that pass the last is directly before it
  pub last_passing : (k : ℕ) (x : Path × ReportEntry) → i ≡ suc k → slice_get es k ≡ Some x → (q : Path) → pred q ≡ true
      → has_entry es q ≡ true → path_cmp x.0 q ≡ Less → ⊥
  last_passing k x e h q t has l = by (cases_lt r.0 k)
    where
      r : (j : ℕ) × (e : Path × ReportEntry) × (slice_get es j ≡ Some e) × (e.0 ≡ q)
      r = place_of es q has

      by : (r.0 < k) ⊎ (k ≤ r.0) → ⊥
      by (inl before) = not_both x.0 q l (ap (λ (z : Path). path_cmp z x.0) (sym r.3) ∙ ordered r.0 k r.1 x before r.2 h)
      by (inr from) =
          let upto = before_point q r.0 r.1 r.2 r.3 t in
          let same : k ≡ r.0 = omega (arith, from, upto, e) in
          let at = same_Some x r.1 (sym h ∙ ap (slice_get es) same ∙ r.2) in
          not_before_itself q (ap (λ (z : Path). path_cmp z q) (sym (ap (λ (e : Path × ReportEntry). e.0) at ∙ r.3)) ∙ l)

  pub none_passing : i ≡ zero → (q : Path) → pred q ≡ true → has_entry es q ≡ false
  none_passing e q t = by (has_entry es q) refl
    where
      by : (b : Bool) → has_entry es q ≡ b → b ≡ false
      by true has =
          let r = place_of es q has in
          let upto = before_point q r.0 r.1 r.2 r.3 t in
          absurd (omega (arith, upto, e))
      by false has = refl

  pub fails_at : (x : Path × ReportEntry) → slice_get es i ≡ Some x → (pred x.0 ≡ false) × (has_entry es x.0 ≡ true)
  fails_at x h = (behind i x (omega arith) h, there i x h)

  pub passes_before : (k : ℕ) (x : Path × ReportEntry) → i ≡ suc k → slice_get es k ≡ Some x
      → (pred x.0 ≡ true) × (has_entry es x.0 ≡ true)
  passes_before k x e h = (ahead k x (omega (arith, e)) h, there k x h)

-- ---- the next path and the one before, by the point of a comparison

after_not_le : (p q : Path) → path_cmp p q ≡ Less → is_le (path_cmp q p) ≡ false
after_not_le p q l = ap is_le (paths_total.antisymm q p ∙ ap ordering_reverse l)

not_le_after : (p q : Path) → is_le (path_cmp q p) ≡ false → path_cmp p q ≡ Less
not_le_after p q h = by (path_cmp q p) refl h
  where
    by : (o : Ordering) → path_cmp q p ≡ o → is_le o ≡ false → path_cmp p q ≡ Less
    by Less e h = absurd (true≢false h)
    by Equal e h = absurd (true≢false h)
    by Greater e h = paths_total.antisymm p q ∙ ap ordering_reverse e

pub le_parts : (p x y : Path) → path_cmp x y ≡ Less → is_le (path_cmp y p) ≡ true → is_le (path_cmp x p) ≡ true
le_parts p x y l h = by (path_cmp y p) refl h
  where
    by : (o : Ordering) → path_cmp y p ≡ o → is_le o ≡ true → is_le (path_cmp x p) ≡ true
    by Less e h = ap is_le (paths_total.trans x y p l e)
    by Equal e h = ap is_le (ap (path_cmp x) (sym (path_tie y p e)) ∙ l)
    by Greater e h = absurd (true≢false (sym h))

pub lt_parts : (p x y : Path) → path_cmp x y ≡ Less → is_lt (path_cmp y p) ≡ true → is_lt (path_cmp x p) ≡ true
lt_parts p x y l h = ap is_lt (paths_total.trans x y p l (less_from_is_lt (path_cmp y p) h))

pub next_at : (es : Entries) (p : Path) (i : ℕ) (found : Option Path) → InPathOrder es → AreLawfulEntries es
    → IsPartitionPoint (λ e. is_le (path_cmp e.0 p) ≡ true) (λ e. is_le (path_cmp e.0 p) ≡ false) es i
    → found ≡ option_map (λ e. e.0) (slice_get es i) → IsNextEntry es p found
next_at es p i found ordered lawful point e = subst (IsNextEntry es p) (sym e) (by (slice_get es i) refl)
  where
    pred : Path → Bool
    pred q = is_le (path_cmp q p)

    by : (o : Option (Path × ReportEntry)) → slice_get es i ≡ o → IsNextEntry es p (option_map (λ e. e.0) o)
    by None h = λ q l. none_failing es pred i ordered lawful point h q (after_not_le p q l)
    by (Some x) h =
        let at = fails_at es pred i ordered lawful point x h in
        (not_le_after p x.0 at.0, at.1, λ q l has. first_failing es pred i ordered lawful point x h q (after_not_le p q l) has)

-- nothing comes after the last one
none_past : (es : Entries) (x : Path × ReportEntry) (q : Path) → InPathOrder es → slice_get es (length es - 1) ≡ Some x
    → has_entry es q ≡ true → path_cmp x.0 q ≡ Less → ⊥
none_past es x q ordered h has l = by (cases_lt r.0 (length es - 1))
  where
    r : (j : ℕ) × (e : Path × ReportEntry) × (slice_get es j ≡ Some e) × (e.0 ≡ q)
    r = place_of es q has

    by : (r.0 < length es - 1) ⊎ (length es - 1 ≤ r.0) → ⊥
    by (inl before) =
        not_both x.0 q l (ap (λ (z : Path). path_cmp z x.0) (sym r.3) ∙ ordered r.0 (length es - 1) r.1 x before r.2 h)
    by (inr from) =
        let within = slice_get_within es r.0 r.1 r.2 in
        let same : length es - 1 ≡ r.0 = omega (arith, from, within) in
        let at = same_Some x r.1 (sym h ∙ ap (slice_get es) same ∙ r.2) in
        not_before_itself q (ap (λ (z : Path). path_cmp z q) (sym (ap (λ (e : Path × ReportEntry). e.0) at ∙ r.3)) ∙ l)

pub next_past : (es : Entries) (p : Path) (x : Path × ReportEntry) → InPathOrder es → slice_get es (length es - 1) ≡ Some x
    → is_le (path_cmp x.0 p) ≡ true → IsNextEntry es p None
next_past es p x ordered h le q l = by (has_entry es q) refl
  where
    after : (o : Ordering) → path_cmp x.0 p ≡ o → is_le o ≡ true → path_cmp x.0 q ≡ Less
    after Less e u = paths_total.trans x.0 p q e l
    after Equal e u = ap (λ (z : Path). path_cmp z q) (path_tie x.0 p e) ∙ l
    after Greater e u = absurd (true≢false (sym u))

    by : (b : Bool) → has_entry es q ≡ b → b ≡ false
    by true has = absurd (none_past es x q ordered h has (after (path_cmp x.0 p) refl le))
    by false has = refl

pub previous_last : (es : Entries) (p : Path) (x : Path × ReportEntry) → InPathOrder es → AreLawfulEntries es
    → slice_get es (length es - 1) ≡ Some x → is_lt (path_cmp x.0 p) ≡ true → IsPreviousEntry es p (Some x.0)
previous_last es p x ordered lawful h l = (
  less_from_is_lt (path_cmp x.0 p) l,
  ap is_some (lawful.each_once (length es - 1) x h),
  λ q before has after. none_past es x q ordered h has after,
)

pub previous_at : (es : Entries) (p : Path) (i k : ℕ) (found : Option Path) → InPathOrder es → AreLawfulEntries es
    → IsPartitionPoint (λ e. is_lt (path_cmp e.0 p) ≡ true) (λ e. is_lt (path_cmp e.0 p) ≡ false) es i → i ≤ length es → i ≡ suc k
    → found ≡ option_map (λ e. e.0) (slice_get es k) → IsPreviousEntry es p found
previous_at es p i k found ordered lawful point bound one e = subst (IsPreviousEntry es p) (sym e) (by (slice_get es k) refl)
  where
    pred : Path → Bool
    pred q = is_lt (path_cmp q p)

    by : (o : Option (Path × ReportEntry)) → slice_get es k ≡ o → IsPreviousEntry es p (option_map (λ e. e.0) o)
    by None h = λ q l. absurd (no_entry es k h (omega (arith, bound, one)))
    by (Some x) h =
        let at = passes_before es pred i ordered lawful point k x one h in
        (less_from_is_lt (path_cmp x.0 p) at.0, at.1, λ q l has. last_passing es pred i ordered lawful point k x one h q (ap is_lt l) has)

pub previous_none_at : (es : Entries) (p : Path) (i : ℕ) → InPathOrder es → AreLawfulEntries es
    → IsPartitionPoint (λ e. is_lt (path_cmp e.0 p) ≡ true) (λ e. is_lt (path_cmp e.0 p) ≡ false) es i → i ≡ zero → IsPreviousEntry es p None
previous_none_at es p i ordered lawful point e = λ q l. none_passing es (λ q. is_lt (path_cmp q p)) i ordered lawful point e q (ap is_lt l)

-- ---- after a name below a path

pub behind_parts : (p : Path) (n : Name) (q : Path) → is_after_name p n q ≡ true
    → (path_cmp (child p n) q ≡ Less) × (is_within (child p n) q ≡ false)
behind_parts p n q h =
    let parts = and_parts (is_lt (path_cmp (child p n) q)) (not (is_within (child p n) q)) h in
    (less_from_is_lt (path_cmp (child p n) q) parts.0, apart (is_within (child p n) q) parts.1)
  where
    apart : (b : Bool) → not b ≡ true → b ≡ false
    apart true h = absurd (true≢false (sym h))
    apart false h = refl

behind_from : (p : Path) (n : Name) (q : Path) → path_cmp (child p n) q ≡ Less → is_within (child p n) q ≡ false
    → is_after_name p n q ≡ true
behind_from p n q l w = (λ i. is_lt (l i) && not (w i))

-- what comes after such a path comes after the name too
behind_more : (p : Path) (n : Name) (x y : Path) → path_cmp x y ≡ Less → is_after_name p n x ≡ true → is_after_name p n y ≡ true
behind_more p n x y l h =
    behind_from p n y (paths_total.trans (child p n) x y parts.0 l) (apart (is_within (child p n) y) refl)
  where
    parts : (path_cmp (child p n) x ≡ Less) × (is_within (child p n) x ≡ false)
    parts = behind_parts p n x h

    apart : (b : Bool) → is_within (child p n) y ≡ b → b ≡ false
    apart true w = absurd (true≢false (sym (within_between (child p n) x y parts.0 (λ k. not_both x y l k) w) ∙ parts.1))
    apart false w = refl

pub ahead_parts : (p : Path) (n : Name) (x y : Path) → path_cmp x y ≡ Less → is_ahead_of_name p n y ≡ true
    → is_ahead_of_name p n x ≡ true
ahead_parts p n x y l h = by (is_after_name p n x) refl
  where
    by : (b : Bool) → is_after_name p n x ≡ b → not b ≡ true
    by true k = absurd (true≢false (sym h ∙ ap not (behind_more p n x y l k)))
    by false k = refl

pub behind_at : (es : Entries) (p : Path) (n : Name) (i : ℕ) (found : Option Path) → InPathOrder es → AreLawfulEntries es
    → IsPartitionPoint (λ e. is_ahead_of_name p n e.0 ≡ true) (λ e. is_ahead_of_name p n e.0 ≡ false) es i
    → found ≡ option_map (λ e. e.0) (slice_get es i) → IsFirstAfter es p n found
behind_at es p n i found ordered lawful point e = subst (IsFirstAfter es p n) (sym e) (by (slice_get es i) refl)
  where
    by : (o : Option (Path × ReportEntry)) → slice_get es i ≡ o → IsFirstAfter es p n (option_map (λ e. e.0) o)
    by None h = λ q b. none_failing es (is_ahead_of_name p n) i ordered lawful point h q (ap not b)
    by (Some x) h =
        let at = fails_at es (is_ahead_of_name p n) i ordered lawful point x h in (
          not-false (is_after_name p n x.0) at.0,
          at.1,
          λ q b has l. first_failing es (is_ahead_of_name p n) i ordered lawful point x h q (ap not b) has l,
        )

-- as it is looked for: outside the path by the order of the paths, and within it by the next name

pub outside_behind : (p : Path) (n : Name) (q : Path) → is_within p q ≡ false → is_lt (path_cmp p q) ≡ is_after_name p n q
outside_behind [] n q w = absurd (true≢false w)
outside_behind (c ∷ p) n [] w = refl
outside_behind (c ∷ p) n (a ∷ q) w = by (name_cmp c a) refl (bytes_eq c a) (texts_ties c a) w (outside_behind p n q)
  where
    by : (o : Ordering) → name_cmp c a ≡ o → (b : Bool) → b ≡ is_eq o → (b && is_within p q) ≡ false
        → (is_within p q ≡ false → is_lt (path_cmp p q) ≡ is_after_name p n q)
        → is_lt (ordering_then o (path_cmp p q)) ≡ (is_lt (ordering_then o (path_cmp (child p n) q)) && not (b && is_within (child p n) q))
    by Less e true t w ih = absurd (true≢false t)
    by Less e false t w ih = refl
    by Equal e true t w ih = ih w
    by Equal e false t w ih = absurd (true≢false (sym t))
    by Greater e b t w ih = refl

pub named_behind : (p : Path) (n m : Name) (q : Path) → is_within p q ≡ true → slice_get q (length p) ≡ Some m
    → is_lt (name_cmp n m) ≡ is_after_name p n q
named_behind [] n m [] w h = absurd (some-none m (sym h))
named_behind [] n m (a ∷ q) w h =
    ap (λ (z : Name). is_lt (name_cmp n z)) (sym (same_Some a m h)) ∙ by (name_cmp n a) refl (bytes_eq n a) (texts_ties n a) q
  where
    by : (o : Ordering) → name_cmp n a ≡ o → (b : Bool) → b ≡ is_eq o → (q : Path)
        → is_lt o ≡ (is_lt (ordering_then o (path_cmp [] q)) && not (b && is_within [] q))
    by Less e true t q = absurd (true≢false t)
    by Less e false t q = refl
    by Equal e true t [] = refl
    by Equal e true t (z ∷ q) = refl
    by Equal e false t q = absurd (true≢false (sym t))
    by Greater e b t q = refl
named_behind (c ∷ p) n m [] w h = absurd (true≢false (sym w))
named_behind (c ∷ p) n m (a ∷ q) w h =
    let parts = and_parts (bytes_eq c a) (is_within p q) w in
    named_behind p n m q parts.1 h
    ∙ (λ i. is_lt (ordering_then (sym (level_names c a parts.0) i) (path_cmp (child p n) q))
    && not (sym parts.0 i && is_within (child p n) q))

pub itself_behind : (p : Path) (n : Name) (q : Path) → is_within p q ≡ true → slice_get q (length p) ≡ None
    → false ≡ is_after_name p n q
itself_behind [] n [] w h = refl
itself_behind [] n (a ∷ q) w h = absurd (some-none a h)
itself_behind (c ∷ p) n [] w h = absurd (true≢false (sym w))
itself_behind (c ∷ p) n (a ∷ q) w h =
    let parts = and_parts (bytes_eq c a) (is_within p q) w in
    itself_behind p n q parts.1 h
    ∙ (λ i. is_lt (ordering_then (sym (level_names c a parts.0) i) (path_cmp (child p n) q))
    && not (sym parts.0 i && is_within (child p n) q))

-- ---- the first entries

has_more : (es : Entries) (x : Path × ReportEntry) (q : Path) → has_entry (es ++ x ∷ []) q ≡ (path_eq x.0 q || has_entry es q)
has_more [] x q = by (path_eq x.0 q)
  where
    by : (b : Bool) → is_some (cond b (Some x.1) None) ≡ (b || false)
    by true = refl
    by false = refl
has_more (e ∷ es) x q = by (path_eq e.0 q) (path_eq x.0 q) (has_more es x q)
  where
    by : (b c : Bool) → has_entry (es ++ x ∷ []) q ≡ (c || has_entry es q)
        → is_some (cond b (Some e.1) (entry_at (es ++ x ∷ []) q)) ≡ (c || is_some (cond b (Some e.1) (entry_at es q)))
    by true true h = refl
    by true false h = refl
    by false c h = h

pub taken_more : (es : Entries) (i : ℕ) (x : Path × ReportEntry) (q : Path) → slice_get es i ≡ Some x
    → has_entry (take (i + 1) es) q ≡ (path_eq x.0 q || has_entry (take i es) q)
taken_more es i x q h =
    let next : i + 1 ≡ suc i = omega arith in
    ap (λ n. has_entry (take n es) q) next
    ∙ ap (λ (fs : Entries). has_entry fs q) (sym (take_next es i) ∙ ap (λ o. take i es ++ option_to_list o) h)
    ∙ has_more (take i es) x q

taken_at : (es : Entries) (i j : ℕ) (e : Path × ReportEntry) → slice_get (take i es) j ≡ Some e → (j < i) × (slice_get es j ≡ Some e)
taken_at es zero j e h = absurd (some-none e (sym h))
taken_at [] (suc i) j e h = absurd (some-none e (sym h))
taken_at (f ∷ es) (suc i) zero e h = (omega arith, h)
taken_at (f ∷ es) (suc i) (suc j) e h = let r = taken_at es i j e h in (omega (arith, r.0), r.1)

-- the next path in path order has none of them
pub taken_without : (es : Entries) (i : ℕ) (x : Path × ReportEntry) → InPathOrder es → slice_get es i ≡ Some x
    → has_entry (take i es) x.0 ≡ false
taken_without es i x ordered h = by (has_entry (take i es) x.0) refl
  where
    by : (b : Bool) → has_entry (take i es) x.0 ≡ b → b ≡ false
    by true has =
        let r = place_of (take i es) x.0 has in
        let at = taken_at es i r.0 r.1 r.2 in
        absurd (not_before_itself x.0 (ap (λ (z : Path). path_cmp z x.0) (sym r.3) ∙ ordered r.0 i r.1 x at.0 at.1 h))
    by false has = refl

pub taken_all : (es : Entries) (i : ℕ) (q : Path) → length es ≤ i → has_entry (take i es) q ≡ has_entry es q
taken_all es i q l = ap (λ (fs : Entries). has_entry fs q) (take_all i es l)

-- ---- one more entry in path order

pub last_of_none : (es : Entries) (p : Path) → length es ≡ zero → ComesLast es p
last_of_none [] p h j e g = absurd (some-none e (sym g))
last_of_none (f ∷ es) p h j e g = absurd (omega (arith, h))

pub ordered_more : (es : Entries) (x : Path × ReportEntry) → InPathOrder es → ComesLast es x.0 → InPathOrder (es ++ x ∷ [])
ordered_more es x ordered last i j e f l h k = by (slice_get_push_cases es x i e h) (slice_get_push_cases es x j f k)
  where
    by : (slice_get es i ≡ Some e) ⊎ ((i ≡ length es) × (x ≡ e)) → (slice_get es j ≡ Some f) ⊎ ((j ≡ length es) × (x ≡ f))
        → path_cmp e.0 f.0 ≡ Less
    by (inl before) (inl after) = ordered i j e f l before after
    by (inl before) (inr new) = subst (λ (y : Path × ReportEntry). path_cmp e.0 y.0 ≡ Less) new.1 (last i e before)
    by (inr new) (inl after) = let within = slice_get_within es j f after in absurd (omega (arith, l, new.0, within))
    by (inr new) (inr also) = absurd (omega (arith, l, new.0, also.0))

-- a path that comes last has no entry
pub none_last : (es : Entries) (p : Path) → ComesLast es p → false ≡ has_entry es p
none_last es p last = by (has_entry es p) refl
  where
    by : (b : Bool) → has_entry es p ≡ b → false ≡ b
    by true h =
        let r = place_of es p h in
        absurd (not_before_itself p (ap (λ (z : Path). path_cmp z p) (sym r.3) ∙ last r.0 r.1 r.2))
    by false h = refl

-- it does where it comes after the last one
pub comes_last : (es : Entries) (p : Path) (x : Path × ReportEntry) → InPathOrder es → slice_get es (length es - 1) ≡ Some x
    → is_lt (path_cmp x.0 p) ≡ true → ComesLast es p
comes_last es p x ordered h l j e g = by (cases_lt j (length es - 1))
  where
    less : path_cmp x.0 p ≡ Less
    less = less_from_is_lt (path_cmp x.0 p) l

    by : (j < length es - 1) ⊎ (length es - 1 ≤ j) → path_cmp e.0 p ≡ Less
    by (inl before) = paths_total.trans e.0 x.0 p (ordered j (length es - 1) e x before g h) less
    by (inr from) =
        let within = slice_get_within es j e g in
        let same : length es - 1 ≡ j = omega (arith, from, within) in
        let at = same_Some x e (sym h ∙ ap (slice_get es) same ∙ g) in
        sym (ap (λ (y : Path × ReportEntry). path_cmp y.0 p) at) ∙ less
