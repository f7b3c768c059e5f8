-- Entries found by their path, and by what is next to a path.
use Rattle.std.proofs.Common.{◌≡◌, ℕ, Bool, true, false, ◌&&◌, ◌||◌, not, cond, List, [], ◌∷◌, ◌++◌, length, take, refl, sym, ◌∙◌}
use Rattle.std.proofs.Common.{ap, subst, inl, inr, arith, true≢false}
use Rattle.std.specs.Prelude.{◌+◌, ◌<◌, ◌≤◌, Option, Some, None, ◌⊎◌, is_some, nat_lt, slice_get, MatchOption}
use Rattle.std.specs.declared.cmp.Ordering.{Ordering}
use Rattle.std.specs.declared.cmp.Ordering.TheVariants.{Less, Equal, Greater}
use Rattle.std.specs.List.{list_any}
use Rattle.std.specs.Map.{lookup}
use Rattle.std.specs.Option.{option_or}
use Rattle.std.specs.BTreeSet.{BTreeSet, contains, IsKeyRangeOf, IsUpperBound}
use Rattle.std.specs.Borrow.{Bor}
use Rattle.std.specs.Option.{option_copied}
use Rattle.std.specs.declared.ops.Bound.TheVariants.{Excluded, Unbounded}
use Rattle.std.specs.Cmp.{IsTotalOrder}
use Rattle.std.proofs.lemmas.Bool.{cases_lt, lt-ltb}
use Rattle.std.proofs.lemmas.Option.{same_Some, slice_get_within}
use Rattle.std.specs.Ordering.{is_gt, is_le, is_lt, ordering_reverse}
use Rattle.std.specs.BTreeMap.{is_at}
use Rattle.svn_lists.proofs.Options.{cond_none, some-none}
use Rattle.svn_lists.proofs.Places.{slice_get_push_cases}
use Rattle.svn_lists.proofs.Somewhere.{any_found}
use Rattle.svn_types.specs.Limits.{path_limit}
use Rattle.svn_types.specs.Names.{Path, path_cmp}
use Rattle.svn_types.specs.Paths.{path_eq, is_within, is_below, is_root}
use Rattle.svn_report.specs.declared.entry.ReportEntry.{ReportEntry}
use Rattle.svn_report.specs.declared.entry.ReportEntry.TheVariants.{LinkPath}
use Rattle.svn_report.specs.Reports.{Entries, entry_at, has_entry_below, is_set, is_delete, is_deleted_at, is_deleted_above}
use Rattle.svn_report.specs.Reports.{is_link_too_deep, is_root_missing, reporter_fault}
use Rattle.svn_report.specs.LawfulReports.{IsRootFirst, AreLawfulEntries}
use Rattle.std.specs.Prelude.{nat_eq}
use Rattle.std.specs.Cmp.Lexicographic.{pointwise}
use Rattle.indexmap.specs.IndexMap.{insert_entry}
use Rattle.svn_report.specs.ReportOrder.{IsIndexed, IsKept, IsNext, IsNextBy, IsNextEntry, IsPrevious, IsPreviousEntry, has_entry}
use Rattle.svn_types.proofs.PathLemmas.{same_path, path_eq-same, path_eq-symm, below_parts}
use Rattle.svn_types.proofs.PathsInOrder.{paths_total, path_tie, at_path, before_apart, earlier, not_both, below_after, within_between}

-- a look-up by the path is the entry there
pub lookup_entry : (es : Entries) (p : Path) → lookup (path_eq p) es ≡ entry_at es p
lookup_entry [] p = refl
lookup_entry (e ∷ es) p =
    ap (λ b. cond b (Some e.1) (lookup (path_eq p) es)) (path_eq-symm p e.0)
    ∙ ap (λ o. cond (path_eq e.0 p) (Some e.1) o) (lookup_entry es p)

-- an entry somewhere has an entry at its path, and the other way round
pub somewhere : (f : Path → Bool) (es : Entries) → list_any (λ e. f e.0) es ≡ true
    → (q : Path) × (f q ≡ true) × (is_some (entry_at es q) ≡ true)
somewhere f [] h = absurd (true≢false (sym h))
somewhere f (e ∷ es) h = by (f e.0) refl h (somewhere f es)
  where
    later : (q : Path) → is_some (entry_at es q) ≡ true → is_some (cond (path_eq e.0 q) (Some e.1) (entry_at es q)) ≡ true
    later q h = at (path_eq e.0 q)
      where
        at : (b : Bool) → is_some (cond b (Some e.1) (entry_at es q)) ≡ true
        at true = refl
        at false = h

    by : (b : Bool) → f e.0 ≡ b → (b || list_any (λ e. f e.0) es) ≡ true
        → (list_any (λ e. f e.0) es ≡ true → (q : Path) × (f q ≡ true) × (is_some (entry_at es q) ≡ true))
        → (q : Path) × (f q ≡ true) × (is_some (cond (path_eq e.0 q) (Some e.1) (entry_at es q)) ≡ true)
    by true k h ih = (e.0, k, ap (λ b. is_some (cond b (Some e.1) (entry_at es e.0))) (path_eq-same e.0))
    by false k h ih = let r = ih h in (r.0, r.1, later r.0 r.2)

pub at_some : (f : Path → Bool) (es : Entries) (q : Path) → f q ≡ true → is_some (entry_at es q) ≡ true → list_any (λ e. f e.0) es ≡ true
at_some f [] q k h = absurd (true≢false (sym h))
at_some f (e ∷ es) q k h = by (path_eq e.0 q) refl h (at_some f es q k)
  where
    or_true : (b : Bool) → (b || true) ≡ true
    or_true true = refl
    or_true false = refl

    by : (b : Bool) → path_eq e.0 q ≡ b → is_some (cond b (Some e.1) (entry_at es q)) ≡ true
        → (is_some (entry_at es q) ≡ true → list_any (λ e. f e.0) es ≡ true) → (f e.0 || list_any (λ e. f e.0) es) ≡ true
    by true s h ih = ap (λ b. b || list_any (λ e. f e.0) es) (ap f (same_path e.0 q s) ∙ k)
    by false s h ih = ap (λ b. f e.0 || b) (ih h) ∙ or_true (f e.0)

-- ---- the paths next to a path

pub next_is : (order : Path → Path → Ordering) → IsTotalOrder order
    → (set : BTreeSet Path) (p : Path) (r rest : List Path) (o : Option (Bor Path))
    → IsKeyRangeOf order (Excluded p) Unbounded set r → MatchOption o ((r ≡ []) × (rest ≡ [])) (λ x. r ≡ x.now ∷ rest)
    → IsNextBy order (contains order set) p (option_copied o)
next_is order total set p r rest None range step = λ q l. range.5 step.0 q (l, tt)
next_is order total set p r rest (Some x) range step =
    let first = subst (λ (k : List Path). IsKeyRangeOf order (Excluded p) Unbounded set k) step range in
    (first.1.0.0, first.1.1, λ q l there before. absurd (true≢false (sym (later q before) ∙ first.2 q (l, tt) there)))
  where
    later : (q : Path) → order q x.now ≡ Less → is_gt (order x.now q) ≡ true
    later q h = ap is_gt (total.antisymm x.now q ∙ ap ordering_reverse h)

pub previous_is : (paths : BTreeSet Path) (p : Path) (r rest : List Path) (o : Option (Bor Path))
    → IsKeyRangeOf path_cmp Unbounded (Excluded p) paths r
    → MatchOption o ((r ≡ []) × (rest ≡ [])) (λ x. r ≡ rest ++ x.now ∷ []) → IsPrevious paths p (option_copied o)
previous_is paths p r rest None range step = λ q l. range.5 step.0 q (tt, l)
previous_is paths p r rest (Some x) range step =
    let last = range.3 x.now rest step in
    (last.0.1, last.1, λ q l there after. absurd (true≢false (sym (ap is_lt after) ∙ range.4 x.now rest step q (tt, l) there)))

-- nothing comes after the last path
pub none_after : (paths : BTreeSet Path) (p last : Path) → IsUpperBound path_cmp paths last → is_le (path_cmp last p) ≡ true
    → IsNext paths p None
none_after paths p last greatest later = λ q l. by q (contains path_cmp paths q) refl (beyond q l (path_cmp last p) refl later)
  where
    by : (q : Path) (b : Bool) → contains path_cmp paths q ≡ b → path_cmp last q ≡ Less → b ≡ false
    by q true h l = absurd (true≢false (sym (ap is_lt l) ∙ greatest q h))
    by q false h l = refl

    beyond : (q : Path) → path_cmp p q ≡ Less → (o : Ordering) → path_cmp last p ≡ o → is_le o ≡ true → path_cmp last q ≡ Less
    beyond q l Less e h = paths_total.trans last p q e l
    beyond q l Equal e h = ap (λ (z : Path). path_cmp z q) (path_tie last p e) ∙ l
    beyond q l Greater e h = absurd (true≢false (sym h))

-- a path found in an index is there among the paths of the entries

pub next_kept : (order : Path → Path → Ordering) (paths : BTreeSet Path) (es : Entries) (p : Path) (found : Option Path)
    → IsKept paths es → IsNextBy order (contains path_cmp paths) p found → IsNextBy order (has_entry es) p found
next_kept order paths es p None kept next = λ q l. sym (kept.has q) ∙ next q l
next_kept order paths es p (Some x) kept next = (next.0, sym (kept.has x) ∙ next.1, λ q l has. next.2 q l (kept.has q ∙ has))

pub previous_kept : (paths : BTreeSet Path) (es : Entries) (p : Path) (found : Option Path) → IsKept paths es → IsPrevious paths p found
    → IsPreviousEntry es p found
previous_kept paths es p None kept previous = λ q l. sym (kept.has q) ∙ previous q l
previous_kept paths es p (Some x) kept previous =
    (previous.0, sym (kept.has x) ∙ previous.1, λ q l has. previous.2 q l (kept.has q ∙ has))

pub lawful_kept : (index : Option (BTreeSet Path)) (es : Entries) → IsIndexed index es → AreLawfulEntries es
lawful_kept None es kept = kept.1
lawful_kept (Some paths) es kept = kept.lawful

-- ---- what is below a path

pub next_below : (es : Entries) (p n : Path) → IsNextEntry es p (Some n) → is_within p n ≡ has_entry_below es p
next_below es p n next = by (is_within p n) refl (has_entry_below es p) refl
  where
    by : (a : Bool) → is_within p n ≡ a → (b : Bool) → has_entry_below es p ≡ b → a ≡ b
    by true w b h = sym (sym h ∙ at_some (is_below p) es n (ap (λ x. x && not (path_eq p n)) w ∙ ap not (before_apart p n next.0)) next.1)
    by false w true h =
        let s = somewhere (is_below p) es h in
        let parts = below_parts p s.0 s.1 in
        absurd (true≢false (sym (within_between p n s.0 next.0 (next.2 s.0 (below_after p s.0 parts.0 parts.1) s.2) parts.0) ∙ w))
    by false w false h = refl

pub none_below : (es : Entries) (p : Path) → IsNextEntry es p None → false ≡ has_entry_below es p
none_below es p next = by (has_entry_below es p) refl
  where
    by : (b : Bool) → has_entry_below es p ≡ b → false ≡ b
    by true h =
        let s = somewhere (is_below p) es h in
        let parts = below_parts p s.0 s.1 in
        absurd (true≢false (sym s.2 ∙ next s.0 (below_after p s.0 parts.0 parts.1)))
    by false h = refl

-- ---- what is deleted above a path

deleted_parts : (p q : Path) (e : ReportEntry) → (is_delete e && is_below q p) ≡ true → (is_delete e ≡ true) × (is_below q p ≡ true)
deleted_parts p q e h = by (is_delete e) (is_below q p) h
  where
    by : (a b : Bool) → (a && b) ≡ true → (a ≡ true) × (b ≡ true)
    by true b h = (refl, h)
    by false b h = absurd (true≢false (sym h))

deleted_somewhere : (es : Entries) (p : Path) → AreLawfulEntries es → list_any (is_deleted_above p) es ≡ true
    → (q : Path) × (is_below q p ≡ true) × (is_deleted_at (entry_at es q) ≡ true)
deleted_somewhere es p lawful h =
    let r = any_found (is_deleted_above p) es h in
    let parts = deleted_parts p r.1.0 r.1.1 r.3 in
    (r.1.0, parts.1, ap is_deleted_at (lawful.each_once r.0 r.1 r.2) ∙ parts.0)

at_deleted : (es : Entries) (p q : Path) → is_deleted_at (entry_at es q) ≡ true → is_below q p ≡ true
    → list_any (is_deleted_above p) es ≡ true
at_deleted [] p q d b = absurd (true≢false (sym d))
at_deleted (e ∷ es) p q d b = by (path_eq e.0 q) refl d (at_deleted es p q)
  where
    or_true : (b : Bool) → (b || true) ≡ true
    or_true true = refl
    or_true false = refl

    by : (s : Bool) → path_eq e.0 q ≡ s → is_deleted_at (cond s (Some e.1) (entry_at es q)) ≡ true
        → (is_deleted_at (entry_at es q) ≡ true → is_below q p ≡ true → list_any (is_deleted_above p) es ≡ true)
        → (is_deleted_above p e || list_any (is_deleted_above p) es) ≡ true
    by true s d ih =
        ap (λ x. (x && is_below e.0 p) || list_any (is_deleted_above p) es) d
        ∙ ap (λ x. x || list_any (is_deleted_above p) es) (ap (λ (z : Path). is_below z p) (same_path e.0 q s) ∙ b)
    by false s d ih = ap (λ x. is_deleted_above p e || x) (ih d b) ∙ or_true (is_deleted_above p e)

some_deleted : (o : Option ReportEntry) → is_deleted_at o ≡ true → is_some o ≡ true
some_deleted None h = absurd (true≢false (sym h))
some_deleted (Some e) h = refl

pub previous_deleted : (es : Entries) (p n : Path) → AreLawfulEntries es → IsPreviousEntry es p (Some n)
    → (is_within n p && is_deleted_at (entry_at es n)) ≡ list_any (is_deleted_above p) es
previous_deleted es p n lawful previous =
    by (is_within n p) refl (is_deleted_at (entry_at es n)) refl (list_any (is_deleted_above p) es) refl
  where
    -- the deleted path above is the one before
    it : list_any (is_deleted_above p) es ≡ true → (is_within n p ≡ true) × (is_deleted_at (entry_at es n) ≡ true)
    it h = same (path_eq r.0 n) refl
      where
        r : (q : Path) × (is_below q p ≡ true) × (is_deleted_at (entry_at es q) ≡ true)
        r = deleted_somewhere es p lawful h

        above : (is_within r.0 p ≡ true) × (path_eq r.0 p ≡ false)
        above = below_parts r.0 p r.1

        there : is_some (entry_at es r.0) ≡ true
        there = some_deleted (entry_at es r.0) r.2

        not_later : path_cmp n r.0 ≡ Less → ⊥
        not_later = previous.2 r.0 (below_after r.0 p above.0 above.1) there

        same : (b : Bool) → path_eq r.0 n ≡ b → (is_within n p ≡ true) × (is_deleted_at (entry_at es n) ≡ true)
        same true e = (
          ap (λ (z : Path). is_within z p) (sym (same_path r.0 n e)) ∙ above.0,
          ap (λ (z : Path). is_deleted_at (entry_at es z)) (sym (same_path r.0 n e)) ∙ r.2,
        )
        same false e =
            let less = earlier r.0 n e not_later in
            let inside = within_between r.0 n p less (λ k. not_both p n k previous.0) above.0 in
            let nothing = lawful.nothing_below r.0 n r.2 (ap (λ x. x && not (path_eq r.0 n)) inside ∙ ap not e) in
            absurd (true≢false (sym previous.1 ∙ ap is_some nothing))

    by : (a : Bool) → is_within n p ≡ a → (b : Bool) → is_deleted_at (entry_at es n) ≡ b → (r : Bool)
        → list_any (is_deleted_above p) es ≡ r → (a && b) ≡ r
    by true w true d r h = sym (sym h ∙ at_deleted es p n d (ap (λ x. x && not (path_eq n p)) w ∙ ap not (before_apart n p previous.0)))
    by true w false d true h = absurd (true≢false (sym (it h).1 ∙ d))
    by true w false d false h = refl
    by false w b d true h = absurd (true≢false (sym (it h).0 ∙ w))
    by false w b d false h = refl

pub previous_none : (es : Entries) (p : Path) → AreLawfulEntries es → IsPreviousEntry es p None → false ≡ list_any (is_deleted_above p) es
previous_none es p lawful previous = by (list_any (is_deleted_above p) es) refl
  where
    by : (b : Bool) → list_any (is_deleted_above p) es ≡ b → false ≡ b
    by true h =
        let r = deleted_somewhere es p lawful h in
        let above = below_parts r.0 p r.1 in
        absurd (true≢false (sym (some_deleted (entry_at es r.0) r.2) ∙ previous r.0 (below_after r.0 p above.0 above.1)))
    by false h = refl

-- ---- one more entry

record IsWelcome (es : Entries) (p : Path) (e : ReportEntry) : Type 0 where
  root : is_root_missing es p e ≡ false
  new : is_some (entry_at es p) ≡ false
  not_deleted : list_any (is_deleted_above p) es ≡ false
  none_below : has_entry_below es p ≡ false
  short : is_link_too_deep p e ≡ false

welcome : (es : Entries) (p : Path) (e : ReportEntry) → reporter_fault es p e ≡ None → IsWelcome es p e
welcome es p e h =
    let root = cond_none (is_root_missing es p e) _ _ h in
    let new = cond_none (is_some (entry_at es p)) _ _ root.1 in
    let deleted = cond_none (list_any (is_deleted_above p) es) _ _ new.1 in
    let below = cond_none (has_entry_below es p) _ _ deleted.1 in
    let short = cond_none (is_link_too_deep p e) _ _ below.1 in
    record { root = root.0; new = new.0; not_deleted = deleted.0; none_below = below.0; short = short.0 }

entry_at-more : (es : Entries) (p : Path) (e : ReportEntry) (q : Path)
    → entry_at (es ++ (p, e) ∷ []) q ≡ option_or (entry_at es q) (cond (path_eq p q) (Some e) None)
entry_at-more [] p e q = refl
entry_at-more (f ∷ es) p e q = by (path_eq f.0 q) (entry_at-more es p e q)
  where
    by : (b : Bool) → entry_at (es ++ (p, e) ∷ []) q ≡ option_or (entry_at es q) (cond (path_eq p q) (Some e) None)
        → cond b (Some f.1) (entry_at (es ++ (p, e) ∷ []) q) ≡ option_or (cond b (Some f.1) (entry_at es q))
        (cond (path_eq p q) (Some e) None)
    by true ih = refl
    by false ih = ih

none_there : (es : Entries) (p : Path) → is_some (entry_at es p) ≡ false → entry_at es p ≡ None
none_there es p h = by (entry_at es p) h
  where
    by : (o : Option ReportEntry) → is_some o ≡ false → o ≡ None
    by None h = refl
    by (Some e) h = absurd (true≢false h)

-- a path that has no entry goes last
entry_added : (es : Entries) (p : Path) (e : ReportEntry) → is_some (entry_at es p) ≡ false
    → insert_entry (pointwise (pointwise nat_eq)) es p e ≡ es ++ (p, e) ∷ []
entry_added [] p e h = refl
entry_added (f ∷ es) p e h = by (path_eq f.0 p) refl h (entry_added es p e)
  where
    by : (b : Bool) → path_eq f.0 p ≡ b → is_some (cond b (Some f.1) (entry_at es p)) ≡ false
        → (is_some (entry_at es p) ≡ false → insert_entry (pointwise (pointwise nat_eq)) es p e ≡ es ++ (p, e) ∷ [])
        → cond (path_eq p f.0) ((f.0, e) ∷ es) (f ∷ insert_entry (pointwise (pointwise nat_eq)) es p e) ≡ f ∷ (es ++ (p, e) ∷ [])
    by true s h ih = absurd (true≢false h)
    by false s h ih =
        ap (λ b. cond b ((f.0, e) ∷ es) (f ∷ insert_entry (pointwise (pointwise nat_eq)) es p e)) (path_eq-symm p f.0 ∙ s)
        ∙ ap (λ (rest : Entries). f ∷ rest) (ih h)

pub welcome_added : (es : Entries) (p q : Path) (e : ReportEntry) → q ≡ p → reporter_fault es p e ≡ None
    → insert_entry (pointwise (pointwise nat_eq)) es q e ≡ es ++ (p, e) ∷ []
welcome_added es p q e same lawful =
    ap (λ (r : Path). insert_entry (pointwise (pointwise nat_eq)) es r e) same ∙ entry_added es p e (welcome es p e lawful).new

pub not_there : (paths : BTreeSet Path) (es : Entries) (p : Path) (e : ReportEntry) → IsKept paths es → reporter_fault es p e ≡ None
    → contains path_cmp paths p ≡ false
not_there paths es p e kept lawful = kept.has p ∙ (welcome es p e lawful).new

-- what holds of the entries of a report holds with one more that may come
module _ (es : Entries) (p : Path) (e : ReportEntry) (old : AreLawfulEntries es) (w : IsWelcome es p e) where
  root_stays : IsRootFirst (es ++ (p, e) ∷ [])
  root_stays = by es old.root_first w.root
    where
      parts : (a b : Bool) → not (a && b) ≡ false → (a ≡ true) × (b ≡ true)
      parts true true h = (refl, refl)
      parts true false h = absurd (true≢false h)
      parts false b h = absurd (true≢false h)

      by : (fs : Entries) → IsRootFirst fs → is_root_missing fs p e ≡ false → IsRootFirst (fs ++ (p, e) ∷ [])
      by [] first missing = parts (is_root p) (is_set e) missing
      by (f ∷ fs) first missing = first

  each_stays : (i : ℕ) (x : Path × ReportEntry) → slice_get (es ++ (p, e) ∷ []) i ≡ Some x → entry_at (es ++ (p, e) ∷ []) x.0 ≡ Some x.1
  each_stays i x h = entry_at-more es p e x.0 ∙ by (slice_get_push_cases es (p, e) i x h)
    where
      by : (slice_get es i ≡ Some x) ⊎ ((i ≡ length es) × ((p, e) ≡ x))
          → option_or (entry_at es x.0) (cond (path_eq p x.0) (Some e) None) ≡ Some x.1
      by (inl before) = ap (λ o. option_or o (cond (path_eq p x.0) (Some e) None)) (old.each_once i x before)
      by (inr n) =
          subst (λ (y : Path × ReportEntry). option_or (entry_at es y.0) (cond (path_eq p y.0) (Some e) None) ≡ Some y.1) n.1
          (ap (λ o. option_or o (cond (path_eq p p) (Some e) None)) (none_there es p w.new)
          ∙ ap (λ b. cond b (Some e) None) (path_eq-same p))

  nothing_stays : (a q : Path) → is_deleted_at (entry_at (es ++ (p, e) ∷ []) a) ≡ true → is_below a q ≡ true
      → entry_at (es ++ (p, e) ∷ []) q ≡ None
  nothing_stays a q d b = entry_at-more es p e q ∙ by (entry_at es a) refl (sym (ap is_deleted_at (entry_at-more es p e a)) ∙ d)
    where
      by : (o : Option ReportEntry) → entry_at es a ≡ o → is_deleted_at (option_or o (cond (path_eq p a) (Some e) None)) ≡ true
          → option_or (entry_at es q) (cond (path_eq p q) (Some e) None) ≡ None
      by (Some x) k d =
          let gone : is_deleted_at (entry_at es a) ≡ true = ap is_deleted_at k ∙ d in
          ap (λ o. option_or o (cond (path_eq p q) (Some e) None)) (old.nothing_below a q gone b)
          ∙ ap (λ s. cond s (Some e) None) (other (path_eq p q) refl gone)
        where
          other : (s : Bool) → path_eq p q ≡ s → is_deleted_at (entry_at es a) ≡ true → s ≡ false
          other true s gone = absurd (true≢false (sym (at_deleted es p a gone (ap (is_below a) (same_path p q s) ∙ b)) ∙ w.not_deleted))
          other false s gone = refl
      by None k d = at (path_eq p a) refl d
        where
          at : (s : Bool) → path_eq p a ≡ s → is_deleted_at (cond s (Some e) None) ≡ true
              → option_or (entry_at es q) (cond (path_eq p q) (Some e) None) ≡ None
          at false s d = absurd (true≢false (sym d))
          at true s d =
              ap (λ o. option_or o (cond (path_eq p q) (Some e) None)) (none_there es q (empty (is_some (entry_at es q)) refl))
              ∙ ap (λ s. cond s (Some e) None) (below_parts p q below).1
            where
              below : is_below p q ≡ true
              below = ap (λ (z : Path). is_below z q) (same_path p a s) ∙ b

              empty : (s : Bool) → is_some (entry_at es q) ≡ s → s ≡ false
              empty true s = absurd (true≢false (sym (at_some (is_below p) es q below s) ∙ w.none_below))
              empty false s = refl

  parents_stay : (i j : ℕ) (x y : Path × ReportEntry) → slice_get (es ++ (p, e) ∷ []) i ≡ Some x → slice_get (es ++ (p, e) ∷ []) j ≡ Some y
      → is_below x.0 y.0 ≡ true → i < j
  parents_stay i j x y h k b = by (slice_get_push_cases es (p, e) i x h) (slice_get_push_cases es (p, e) j y k)
    where
      by : (slice_get es i ≡ Some x) ⊎ ((i ≡ length es) × ((p, e) ≡ x)) → (slice_get es j ≡ Some y) ⊎ ((j ≡ length es) × ((p, e) ≡ y))
          → i < j
      by (inl before) (inl after) = old.parents_first i j x y before after b
      by (inl before) (inr last) = let within = slice_get_within es i x before in omega (arith, last.0)
      by (inr last) (inl after) =
          let below : is_below p y.0 ≡ true = ap (λ (z : Path × ReportEntry). is_below z.0 y.0) last.1 ∙ b in
          let there = ap is_some (old.each_once j y after) in
          absurd (true≢false (sym (at_some (is_below p) es y.0 below there) ∙ w.none_below))
      by (inr last) (inr also) =
          let below : is_below p p ≡ true = ap (λ (z : Path × ReportEntry). is_below p z.0) also.1
          ∙ ap (λ (z : Path × ReportEntry). is_below z.0 y.0) last.1 ∙ b in
          absurd (true≢false (sym (path_eq-same p) ∙ (below_parts p p below).1))

  links_stay : (a q : Path) (rev : ℕ) (start_empty : Bool) → entry_at (es ++ (p, e) ∷ []) a ≡ Some (LinkPath q rev start_empty)
      → length a ≤ length q + path_limit
  links_stay a q rev start_empty h = by (entry_at es a) refl (sym (entry_at-more es p e a) ∙ h)
    where
      not_deep : (m n : ℕ) → nat_lt m n ≡ false → n ≤ m
      not_deep m n k = at (cases_lt m n)
        where
          at : (m < n) ⊎ (n ≤ m) → n ≤ m
          at (inl l) = absurd (true≢false (sym (lt-ltb m n l) ∙ k))
          at (inr l) = l

      by : (o : Option ReportEntry) → entry_at es a ≡ o
          → option_or o (cond (path_eq p a) (Some e) None) ≡ Some (LinkPath q rev start_empty) → length a ≤ length q + path_limit
      by (Some x) k g = old.links_short a q rev start_empty (k ∙ g)
      by None k g = at (path_eq p a) refl g
        where
          at : (s : Bool) → path_eq p a ≡ s → cond s (Some e) None ≡ Some (LinkPath q rev start_empty) → length a ≤ length q + path_limit
          at true s g =
              subst (λ (z : Path). length z ≤ length q + path_limit) (same_path p a s)
              (not_deep (length q + path_limit) (length p)
              (ap (is_link_too_deep p) (sym (same_Some e (LinkPath q rev start_empty) g)) ∙ w.short))
          at false s g = absurd (some-none _ (sym g))

  lawful_more : AreLawfulEntries (es ++ (p, e) ∷ [])
  lawful_more = record {
    root_first = root_stays;
    each_once = each_stays;
    parents_first = parents_stay;
    nothing_below = nothing_stays;
    links_short = links_stay;
  }

pub lawful_added : (es : Entries) (p : Path) (e : ReportEntry) → AreLawfulEntries es → reporter_fault es p e ≡ None
    → AreLawfulEntries (es ++ (p, e) ∷ [])
lawful_added es p e old lawful = lawful_more es p e old (welcome es p e lawful)

-- ---- a path put into a set, in whose order no other is level with it, and one taken out

pub put_in : (order : Path → Path → Ordering) (old new : BTreeSet Path) (p q : Path) → is_at (order p) q ≡ path_eq p q
    → contains order new q ≡ cond (is_at (order p) q) true (contains order old q)
    → contains order new q ≡ (path_eq p q || contains order old q)
put_in order old new p q level h = h ∙ ap (λ b. cond b true (contains order old q)) level ∙ by (path_eq p q)
  where
    by : (b : Bool) → cond b true (contains order old q) ≡ (b || contains order old q)
    by true = refl
    by false = refl

pub taken_out : (old new : BTreeSet Path) (p q : Path)
    → contains path_cmp new q ≡ cond (is_at (path_cmp p) q) false (contains path_cmp old q)
    → contains path_cmp new q ≡ (not (path_eq p q) && contains path_cmp old q)
taken_out old new p q h = h ∙ ap (λ b. cond b false (contains path_cmp old q)) (at_path p q) ∙ by (path_eq p q)
  where
    by : (b : Bool) → cond b false (contains path_cmp old q) ≡ (not b && contains path_cmp old q)
    by true = refl
    by false = refl

-- a new path put in and taken out again
pub taken_again : (old more new : BTreeSet Path) (p : Path) → contains path_cmp old p ≡ false
    → ((q : Path) → contains path_cmp more q ≡ (path_eq p q || contains path_cmp old q))
    → ((q : Path) → contains path_cmp new q ≡ (not (path_eq p q) && contains path_cmp more q)) → (q : Path)
    → contains path_cmp new q ≡ contains path_cmp old q
taken_again old more new p none added removed q = removed q ∙ ap (λ b. not (path_eq p q) && b) (added q) ∙ by (path_eq p q) refl
  where
    by : (b : Bool) → path_eq p q ≡ b → (not b && (b || contains path_cmp old q)) ≡ contains path_cmp old q
    by true e = sym (ap (contains path_cmp old) (sym (same_path p q e)) ∙ none)
    by false e = refl

-- the entries before a new one
pub before_last : (es : Entries) (x : Path × ReportEntry) → take (length es) (es ++ x ∷ []) ≡ es
before_last [] x = refl
before_last (e ∷ es) x = ap (λ (fs : Entries). e ∷ fs) (before_last es x)

pub kept_more : (old new : BTreeSet Path) (es : Entries) (p : Path) (e : ReportEntry) → IsKept old es → reporter_fault es p e ≡ None
    → ((q : Path) → contains path_cmp new q ≡ (path_eq p q || contains path_cmp old q)) → IsKept new (es ++ (p, e) ∷ [])
kept_more old new es p e kept lawful added = record { has = has; lawful = lawful_added es p e kept.lawful lawful }
  where
    has : (q : Path) → contains path_cmp new q ≡ is_some (entry_at (es ++ (p, e) ∷ []) q)
    has q = added q ∙ ap (λ x. path_eq p q || x) (kept.has q) ∙ by (path_eq p q) (entry_at es q) ∙ sym (ap is_some (entry_at-more es p e q))
      where
        by : (b : Bool) (o : Option ReportEntry) → (b || is_some o) ≡ is_some (option_or o (cond b (Some e) None))
        by true None = refl
        by true (Some x) = refl
        by false None = refl
        by false (Some x) = refl

pub kept_same : (old new : BTreeSet Path) (es : Entries) → IsKept old es → ((q : Path) → contains path_cmp new q ≡ contains path_cmp old q)
    → IsKept new es
kept_same old new es kept same = record { has = λ q. same q ∙ kept.has q; lawful = kept.lawful }

pub none_lawful : AreLawfulEntries []
none_lawful = record {
  root_first = tt;
  each_once = λ i x h. absurd (nothing i x h);
  parents_first = λ i j x y h k b. absurd (nothing i x h);
  nothing_below = λ p q d b. refl;
  links_short = λ p q rev start_empty h. absurd (some-none _ (sym h));
}
  where
    nothing : (i : ℕ) (x : Path × ReportEntry) → slice_get [] i ≡ Some x → ⊥
    nothing i x h = cc
