-- A crawl is a report that a reporter takes, entry by entry.
use Rattle.std.proofs.Common.{◌≡◌, ◌≢◌, ℕ, zero, suc, ◌+◌, ◌<◌, ◌≤◌, Bool, true, false, ◌&&◌, ◌||◌, not, List, [], ◌∷◌, ◌++◌, length, refl}
use Rattle.std.proofs.Common.{sym, ◌∙◌, ap, subst, true≢false, append_assoc, append-nil, arith}
use Rattle.std.specs.Prelude.{Option, Some, None, is_some, cond, filter_map, option_map, slice_get}
use Rattle.std.specs.declared.cmp.Ordering.TheVariants.{Less}
use Rattle.std.specs.List.{AllByRecursion, cons_option, list_any}
use Rattle.std.specs.Map.{keys_of}
use Rattle.std.proofs.lemmas.Bool.{and_parts, false_from_ne_true, le-ltb}
use Rattle.svn_types.specs.Names.{Path, path_cmp}
use Rattle.svn_types.specs.Paths.{path_eq, is_below, is_within, is_root, child, parent}
use Rattle.svn_report.specs.declared.entry.ReportEntry.{ReportEntry}
use Rattle.svn_report.specs.declared.entry.ReportEntry.TheVariants.{SetPath, LinkPath, DeletePath}
use Rattle.svn_report.specs.declared.reporter_fault.ReporterFault.{ReporterFault}
use Rattle.svn_report.specs.declared.reporter_fault.ReporterFault.TheVariants.{NotRootFirst, Repeated, UnderDeleted, ParentLater, TooDeep}
use Rattle.svn_report.specs.Reports.{Entries, entry_at, has_entry_below, is_delete, is_deleted_at, is_deleted_above}
use Rattle.svn_types.specs.Limits.{path_limit}
use Rattle.svn_types.proofs.PathLemmas.{same_path, path_eq-same, split_within}
use Rattle.svn_types.proofs.PathsInOrder.{not_before_itself, not_both, not_before_root, before_apart, below_after}
use Rattle.svn_report.specs.Reports.{is_link_too_deep, is_root_missing, reporter_fault}
use Rattle.svn_report.specs.LawfulReports.{IsRootFirst, IsReport}
use Rattle.svn_model.specs.declared.base_node.BaseNode.{BaseNode}
use Rattle.svn_model.specs.declared.base_node.BaseNode.TheVariants.{File as FileNode, Dir as DirNode, NotPresent}
use Rattle.svn_model.specs.Nodes.{WorkingCopy, get_in, InPathOrder, IsWorkingCopy, is_present, is_dir, is_incomplete, node_revision}
use Rattle.svn_model.specs.Nodes.{node_path}
use Rattle.svn_model.specs.Crawl.{entry_for, reported_at, crawl, is_switched}
use Rattle.law_copy.specs.CopyLaws.{a_crawl_is_a_report}
use Rattle.law_copy.proofs.NodeLists.{get_in-first, rest_in_order, first_before}
use Rattle.law_copy.proofs.Crawls.{crawled, entry_at-crawl}

-- ---- entries in order of their paths

abbrev AllAfter : Path → Entries → Type 0
AllAfter p [] = Unit {0}
AllAfter p (e ∷ es) = (path_cmp p e.0 ≡ Less) × AllAfter p es

abbrev Ascending : Entries → Type 0
Ascending [] = Unit {0}
Ascending (e ∷ es) = AllAfter e.0 es × Ascending es

abbrev AllBefore : Path → Entries → Type 0
AllBefore p [] = Unit {0}
AllBefore p (e ∷ es) = (path_cmp e.0 p ≡ Less) × AllBefore p es

-- each entry is what the function gives at its path
abbrev AllAt : (Path → Option ReportEntry) → Entries → Type 0
AllAt f [] = Unit {0}
AllAt f (e ∷ es) = (f e.0 ≡ Some e.1) × AllAt f es

all_at_longer : (e : Path × ReportEntry) (es fs : Entries) → AllAfter e.0 fs → AllAt (entry_at es) fs → AllAt (entry_at (e ∷ es)) fs
all_at_longer e es [] b h = tt
all_at_longer e es (f ∷ fs) b h =
    (ap (λ x. cond x (Some e.1) (entry_at es f.0)) (before_apart e.0 f.0 b.0) ∙ h.0, all_at_longer e es fs b.1 h.1)

all_at : (es : Entries) → Ascending es → AllAt (entry_at es) es
all_at [] h = tt
all_at (e ∷ es) h = (ap (λ x. cond x (Some e.1) (entry_at es e.0)) (path_eq-same e.0), all_at_longer e es es h.0 (all_at es h.1))

at_place : (f : Path → Option ReportEntry) (es : Entries) (i : ℕ) (e : Path × ReportEntry) → AllAt f es → slice_get es i ≡ Some e
    → f e.0 ≡ Some e.1
at_place f [] i e h g = absurd (none g)
  where
    none : None ≡ Some e → ⊥
    none q = cc
at_place f (x ∷ es) zero e h g = let same : x ≡ e = cc in subst (λ (y : Path × ReportEntry). f y.0 ≡ Some y.1) same h.0
at_place f (x ∷ es) (suc i) e h g = at_place f es i e h.1 g

after_at : (p : Path) (es : Entries) (i : ℕ) (e : Path × ReportEntry) → AllAfter p es → slice_get es i ≡ Some e → path_cmp p e.0 ≡ Less
after_at p [] i e h g = absurd (none g)
  where
    none : None ≡ Some e → ⊥
    none q = cc
after_at p (x ∷ es) zero e h g = let same : x ≡ e = cc in subst (λ (y : Path × ReportEntry). path_cmp p y.0 ≡ Less) same h.0
after_at p (x ∷ es) (suc i) e h g = after_at p es i e h.1 g

-- of two entries the one with the smaller path has the smaller place
placed_before : (es : Entries) (i j : ℕ) (e f : Path × ReportEntry) → Ascending es → slice_get es i ≡ Some e → slice_get es j ≡ Some f
    → path_cmp e.0 f.0 ≡ Less → i < j
placed_before [] i j e f h g k b = absurd (none g)
  where
    none : None ≡ Some e → ⊥
    none q = cc
placed_before (x ∷ es) zero zero e f h g k b =
    let same : e ≡ f = cc in
    absurd (not_before_itself f.0 (subst (λ (y : Path × ReportEntry). path_cmp y.0 f.0 ≡ Less) same b))
placed_before (x ∷ es) zero (suc j) e f h g k b = omega arith
placed_before (x ∷ es) (suc i) zero e f h g k b =
    let same : x ≡ f = cc in
    absurd (not_both e.0 f.0 b (subst (λ (y : Path × ReportEntry). path_cmp y.0 e.0 ≡ Less) same (after_at x.0 es i e h.0 g)))
placed_before (x ∷ es) (suc i) (suc j) e f h g k b = omega (arith, placed_before es i j e f h.1 g k b)

front_at : (f : Path → Option ReportEntry) (xs ys : Entries) → AllAt f (xs ++ ys) → AllAt f xs
front_at f [] ys h = tt
front_at f (x ∷ xs) ys h = (h.0, front_at f xs ys h.1)

next_at : (f : Path → Option ReportEntry) (xs ys : Entries) (y : Path × ReportEntry) → AllAt f (xs ++ y ∷ ys) → f y.0 ≡ Some y.1
next_at f [] ys y h = h.0
next_at f (x ∷ xs) ys y h = next_at f xs ys y h.1

next_after : (p : Path) (xs ys : Entries) (y : Path × ReportEntry) → AllAfter p (xs ++ y ∷ ys) → path_cmp p y.0 ≡ Less
next_after p [] ys y h = h.0
next_after p (x ∷ xs) ys y h = next_after p xs ys y h.1

all_before : (xs ys : Entries) (y : Path × ReportEntry) → Ascending (xs ++ y ∷ ys) → AllBefore y.0 xs
all_before [] ys y h = tt
all_before (x ∷ xs) ys y h = (next_after x.0 xs ys y h.0, all_before xs ys y h.1)

-- ---- the entries of a crawl

after_reported : (all es : List (Path × BaseNode)) (p : Path) → AllByRecursion (λ q. path_cmp p q ≡ Less) (keys_of es)
    → AllAfter p (filter_map (reported_at all) es)
after_reported all [] p h = tt
after_reported all (e ∷ es) p h = by (entry_for e.0 (get_in all (parent e.0)) (Some e.1)) (after_reported all es p h.1)
  where
    by : (o : Option ReportEntry) → AllAfter p (filter_map (reported_at all) es)
        → AllAfter p (cons_option (option_map (λ entry. (e.0, entry)) o) (filter_map (reported_at all) es))
    by None ih = ih
    by (Some x) ih = (h.0, ih)

ascending : (all es : List (Path × BaseNode)) → InPathOrder es → Ascending (filter_map (reported_at all) es)
ascending all [] h = tt
ascending all (e ∷ es) h = by (entry_for e.0 (get_in all (parent e.0)) (Some e.1)) (ascending all es (rest_in_order e es h))
  where
    by : (o : Option ReportEntry) → Ascending (filter_map (reported_at all) es)
        → Ascending (cons_option (option_map (λ entry. (e.0, entry)) o) (filter_map (reported_at all) es))
    by None ih = ih
    by (Some x) ih = (after_reported all es e.0 (first_before e es h), ih)

-- the root's entry sets it
root_entry : (p : Path) (above found : Option BaseNode) → is_root p ≡ true
    → entry_for p above found ≡ Some (SetPath (node_revision found) (is_incomplete found))
root_entry [] above found h = refl
root_entry (name ∷ p) above found h = absurd (true≢false (sym h))

-- no directory is reported as deleted
deleted_no_dir : (p : Path) (above : Option BaseNode) (b : BaseNode) → is_deleted_at (entry_for p above (Some b)) ≡ true
    → is_dir (Some b) ≡ false
deleted_no_dir p above (FileNode r q x ps) h = refl
deleted_no_dir p above NotPresent h = refl
deleted_no_dir p above (DirNode r q c ps) h = by (is_root p) (is_switched p above (Some (DirNode r q c ps))) _ h
  where
    set : Option ReportEntry
    set = Some (SetPath r (not c))

    by : (a s t : Bool)
        → is_deleted_at (cond a (Some (SetPath r (not c))) (cond s (Some (LinkPath q r (not c))) (cond t (Some (SetPath r (not c))) None)))
        ≡ true
        → true ≡ false
    by true s t k = sym k
    by false true t k = sym k
    by false false true k = sym k
    by false false false k = sym k

-- a link's repository path is that of a present node
link_is : (p : Path) (above : Option BaseNode) (b : BaseNode) (q : Path) (r : ℕ) (s : Bool)
    → entry_for p above (Some b) ≡ Some (LinkPath q r s)
    → (is_present (Some b) ≡ true) × (node_path (Some b) ≡ q)
link_is p above NotPresent q r s h = absurd (by (is_root p) (is_incomplete above) h)
  where
    by : (a i : Bool) → cond a (Some (SetPath 0 false)) (cond i None (Some DeletePath)) ≡ Some (LinkPath q r s) → ⊥
    by true i k = cc
    by false true k = cc
    by false false k = cc
link_is p above (FileNode u v x ps) q r s h = (refl, by (is_root p) (is_switched p above (Some (FileNode u v x ps))) _ h)
  where
    by : (a w t : Bool)
        → cond a (Some (SetPath u false)) (cond w (Some (LinkPath v u false)) (cond t (Some (SetPath u false)) None))
        ≡ Some (LinkPath q r s)
        → v ≡ q
    by true w t k = cc
    by false true t k = cc
    by false false true k = cc
    by false false false k = cc
link_is p above (DirNode u v c ps) q r s h = (refl, by (is_root p) (is_switched p above (Some (DirNode u v c ps))) _ h)
  where
    by : (a w t : Bool)
        → cond a (Some (SetPath u (not c))) (cond w (Some (LinkPath v u (not c))) (cond t (Some (SetPath u (not c))) None))
        ≡ Some (LinkPath q r s)
        → v ≡ q
    by true w t k = cc
    by false true t k = cc
    by false false true k = cc
    by false false false k = cc

-- ---- what is above

not_none_of_dir : (o : Option BaseNode) → is_dir o ≡ true → o ≢ None
not_none_of_dir o h e = true≢false (sym h ∙ ap is_dir e)

directory_over : (w : WorkingCopy) → IsWorkingCopy w → (r p : Path) (name : List ℕ) → w (p ++ name ∷ r) ≢ None → is_dir (w p) ≡ true
directory_over w shape [] p name h = shape.parents p name h
directory_over w shape (m ∷ r) p name h =
    let up = directory_over w shape r (child p name) m (λ e. h (ap w (sym (append_assoc p (name ∷ []) (m ∷ r))) ∙ e)) in
    shape.parents p name (not_none_of_dir (w (child p name)) up)

-- above what is in the copy there are directories
pub directory_above : (w : WorkingCopy) → IsWorkingCopy w → (p q : Path) → is_below p q ≡ true → w q ≢ None → is_dir (w p) ≡ true
directory_above w shape p q below some = by (split_within p q parts.0)
  where
    parts : (is_within p q ≡ true) × (not (path_eq p q) ≡ true)
    parts = and_parts (is_within p q) (not (path_eq p q)) below

    by : (r : Path) × (q ≡ p ++ r) → is_dir (w p) ≡ true
    by found = at found.0 found.1
      where
        at : (r : Path) → q ≡ p ++ r → is_dir (w p) ≡ true
        at [] e =
            let one : path_eq p q ≡ true = ap (path_eq p) (e ∙ append-nil p) ∙ path_eq-same p in
            absurd (true≢false (sym parts.1 ∙ ap not one))
        at (name ∷ r) e = directory_over w shape r p name (λ n. some (ap w e ∙ n))

-- what is in a list comes after what comes before all its paths
pub present_after : (x : Path) (es : List (Path × BaseNode)) → AllByRecursion (λ q. path_cmp x q ≡ Less) (keys_of es)
    → (p : Path) (b : BaseNode) → get_in es p ≡ Some b → path_cmp x p ≡ Less
present_after x [] h p b e = absurd (none e)
  where
    none : None ≡ Some b → ⊥
    none q = cc
present_after x (e ∷ es) h p b g = by (path_eq e.0 p) refl (sym (get_in-first e es p) ∙ g) (present_after x es h.1 p b)
  where
    by : (t : Bool) → path_eq e.0 p ≡ t → cond t (Some e.1) (get_in es p) ≡ Some b → (get_in es p ≡ Some b → path_cmp x p ≡ Less)
        → path_cmp x p ≡ Less
    by true q k ih = ap (path_cmp x) (sym (same_path e.0 p q)) ∙ h.0
    by false q k ih = ih k

-- the root comes first
pub root_first : (e : Path × BaseNode) (es : List (Path × BaseNode)) → InPathOrder (e ∷ es) → is_dir (get_in (e ∷ es) []) ≡ true
    → is_root e.0 ≡ true
root_first e es order dir = by (path_eq e.0 []) refl (get_in es []) refl (sym (ap is_dir (get_in-first e es [])) ∙ dir)
  where
    by : (t : Bool) → path_eq e.0 [] ≡ t → (o : Option BaseNode) → get_in es [] ≡ o → is_dir (cond t (Some e.1) (get_in es [])) ≡ true
        → is_root e.0 ≡ true
    by true q o k d = ap is_root (same_path e.0 [] q)
    by false q None k d = absurd (true≢false (sym d ∙ ap is_dir k))
    by false q (Some b) k d = absurd (not_before_root e.0 (present_after e.0 es (first_before e es order) [] b k))

-- ---- the five tests of the reporter

none_of_five : (a b c d e : Bool) (t u v x y : ReporterFault) → a ≡ false → b ≡ false → c ≡ false → d ≡ false → e ≡ false
    → cond a (Some t) (cond b (Some u) (cond c (Some v) (cond d (Some x) (cond e (Some y) None)))) ≡ None
none_of_five a b c d e t u v x y p q r s z =
    ap (λ k. cond k (Some t) (cond b (Some u) (cond c (Some v) (cond d (Some x) (cond e (Some y) None))))) p
    ∙ ap (λ k. cond k (Some u) (cond c (Some v) (cond d (Some x) (cond e (Some y) None)))) q
    ∙ ap (λ k. cond k (Some v) (cond d (Some x) (cond e (Some y) None))) r
    ∙ ap (λ k. cond k (Some x) (cond e (Some y) None)) s
    ∙ ap (λ k. cond k (Some y) None) z

absent_before : (p : Path) (xs : Entries) → AllBefore p xs → entry_at xs p ≡ None
absent_before p [] h = refl
absent_before p (x ∷ xs) h = ap (λ b. cond b (Some x.1) (entry_at xs p)) (before_apart x.0 p h.0) ∙ absent_before p xs h.1

none_below_before : (p : Path) (xs : Entries) → AllBefore p xs → has_entry_below xs p ≡ false
none_below_before p [] h = refl
none_below_before p (x ∷ xs) h =
    ap (λ b. b || has_entry_below xs p) (false_from_ne_true (is_below p x.0) below) ∙ none_below_before p xs h.1
  where
    below : is_below p x.0 ≡ true → ⊥
    below e =
        let parts = and_parts (is_within p x.0) (not (path_eq p x.0)) e in
        not_both x.0 p h.0 (below_after p x.0 parts.0 (by (path_eq p x.0) parts.1))
      where
        by : (b : Bool) → not b ≡ true → b ≡ false
        by true k = sym k
        by false k = refl

module _ (nodes : List (Path × BaseNode)) (order : InPathOrder nodes) (shape : IsWorkingCopy (get_in nodes)) where
  abbrev entries : Entries
  entries = filter_map (reported_at nodes) nodes

  abbrev w : WorkingCopy
  w = get_in nodes

  in_turn : Ascending entries
  in_turn = ascending nodes nodes order

  entry_is : (p : Path) → entry_at entries p ≡ crawled nodes p (w p)
  entry_is p = entry_at-crawl nodes order p

  crawl_root_first : IsRootFirst entries
  crawl_root_first = by nodes order shape.root
    where
      by : (es : List (Path × BaseNode)) → InPathOrder es → is_dir (get_in es []) ≡ true → IsRootFirst (filter_map (reported_at nodes) es)
      by [] o d = absurd (true≢false (sym d))
      by (e ∷ es) o d =
          let root = root_first e es o d in
          subst (λ x. IsRootFirst (cons_option (option_map (λ entry. (e.0, entry)) x) (filter_map (reported_at nodes) es)))
          (sym (root_entry e.0 (get_in nodes (parent e.0)) (Some e.1) root)) (root, refl)

  crawl_nothing_below : (p q : Path) → is_deleted_at (entry_at entries p) ≡ true → is_below p q ≡ true → entry_at entries q ≡ None
  crawl_nothing_below p q deleted below = entry_is q ∙ by (w q) refl
    where
      no_dir : (o : Option BaseNode) → is_deleted_at (crawled nodes p o) ≡ true → is_dir o ≡ false
      no_dir None k = refl
      no_dir (Some b) k = deleted_no_dir p (w (parent p)) b k

      by : (o : Option BaseNode) → w q ≡ o → crawled nodes q o ≡ None
      by None e = refl
      by (Some b) e =
          absurd (true≢false
          (sym (directory_above w shape p q below (λ n. let one = sym e ∙ n in cc))
          ∙ no_dir (w p) (sym (ap is_deleted_at (entry_is p)) ∙ deleted)))

  crawl_links_short : (p q : Path) (r : ℕ) (s : Bool) → entry_at entries p ≡ Some (LinkPath q r s) → length p ≤ length q + path_limit
  crawl_links_short p q r s h = by (w p) refl (sym (entry_is p) ∙ h)
    where
      by : (o : Option BaseNode) → w p ≡ o → crawled nodes p o ≡ Some (LinkPath q r s) → length p ≤ length q + path_limit
      by None e k = absurd (none k)
        where
          none : None ≡ Some (LinkPath q r s) → ⊥
          none z = cc
      by (Some b) e k =
          let l = link_is p (w (parent p)) b q r s k in
          let short : length p ≤ 64 + length (node_path (w p)) = shape.paths p (ap is_present e ∙ l.0) in
          let same : length (node_path (w p)) ≡ length q = ap length (ap node_path e ∙ l.1) in
          omega arith

  -- what is reported is a report
  pub crawl_report : IsReport (crawl nodes)
  crawl_report = record {
    root_first = crawl_root_first;
    each_once = λ i e g. at_place (entry_at entries) entries i e (all_at entries in_turn) g;
    parents_first = λ i j e f g k below. placed_before entries i j e f in_turn g k (ordered e.0 f.0 below);
    nothing_below = crawl_nothing_below;
    links_short = crawl_links_short;
  }
    where
      ordered : (p q : Path) → is_below p q ≡ true → path_cmp p q ≡ Less
      ordered p q below =
          let parts = and_parts (is_within p q) (not (path_eq p q)) below in
          below_after p q parts.0 (by (path_eq p q) parts.1)
        where
          by : (b : Bool) → not b ≡ true → b ≡ false
          by true k = sym k
          by false k = refl

  -- and the reporter refuses none of it
  module _ (xs ys : Entries) (p : Path) (e : ReportEntry) (split : entries ≡ xs ++ (p, e) ∷ ys) where
    before : AllBefore p xs
    before = all_before xs ys (p, e) (subst Ascending split in_turn)

    at_each : AllAt (entry_at entries) (xs ++ (p, e) ∷ ys)
    at_each = subst (AllAt (entry_at entries)) split (all_at entries in_turn)

    own : entry_at entries p ≡ Some e
    own = next_at (entry_at entries) xs ys (p, e) at_each

    no_root_missing : is_root_missing xs p e ≡ false
    no_root_missing = by xs (subst IsRootFirst split crawl_root_first)
      where
        by : (zs : Entries) → IsRootFirst (zs ++ (p, e) ∷ ys) → is_root_missing zs p e ≡ false
        by [] h = (λ i. not (h.0 i && h.1 i))
        by (z ∷ zs) h = refl

    none_deleted : (zs : Entries) → AllAt (entry_at entries) zs → list_any (is_deleted_above p) zs ≡ false
    none_deleted [] h = refl
    none_deleted (z ∷ zs) h =
        ap (λ b. b || list_any (is_deleted_above p) zs) (false_from_ne_true (is_deleted_above p z) deleted) ∙ none_deleted zs h.1
      where
        deleted : is_deleted_above p z ≡ true → ⊥
        deleted k =
            let parts = and_parts (is_delete z.1) (is_below z.0 p) k in
            none (sym (crawl_nothing_below z.0 p (ap is_deleted_at h.0 ∙ parts.0) parts.1) ∙ own)
          where
            none : None ≡ Some e → ⊥
            none q = cc

    link_short : is_link_too_deep p e ≡ false
    link_short = by e own
      where
        by : (x : ReportEntry) → entry_at entries p ≡ Some x → is_link_too_deep p x ≡ false
        by (LinkPath q r s) h = le-ltb (length q + path_limit) (length p) (crawl_links_short p q r s h)
        by (SetPath r s) h = refl
        by DeletePath h = refl

    pub taken_in_turn : reporter_fault xs p e ≡ None
    taken_in_turn =
        none_of_five _ _ _ _ _ NotRootFirst Repeated UnderDeleted ParentLater TooDeep
        no_root_missing (ap is_some (absent_before p xs before)) (none_deleted xs (front_at (entry_at entries) xs ((p, e) ∷ ys) at_each))
        (none_below_before p xs before) link_short

pub a_crawl_is_taken : a_crawl_is_a_report
a_crawl_is_taken nodes order shape = (crawl_report nodes order shape, λ xs ys p e split. taken_in_turn nodes order shape xs ys p e split)
