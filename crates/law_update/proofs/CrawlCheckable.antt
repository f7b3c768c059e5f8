-- What a true copy asks for can be served: its crawl is checkable, and a target has no fault where its root is of the copy's line.
use Rattle.std.proofs.Common.{◌≡◌, ℕ, zero, suc, ◌+◌, ◌<◌, Bool, true, false, ◌&&◌, not, List, [], ◌∷◌, length, refl, sym, ◌∙◌, ap, subst}
use Rattle.std.proofs.Common.{true≢false, arith}
use Rattle.std.specs.Prelude.{Option, Some, None, is_some, is_none, cond, nat_lt, option_and_then, slice_get, filter_map, option_map}
use Rattle.std.specs.List.{cons_option}
use Rattle.std.specs.Option.{option_or}
use Rattle.std.proofs.lemmas.Bool.{lt-ltb}
use Rattle.std.proofs.Math.Bool.{and-false}
use Rattle.std.proofs.lemmas.Option.{same_Some}
use Rattle.svn_lists.proofs.Options.{none_from_four}
use Rattle.svn_types.specs.Names.{Path}
use Rattle.svn_types.specs.Paths.{child, parent, is_root}
use Rattle.svn_types.proofs.NameLemmas.{Name}
use Rattle.svn_types.proofs.PathLemmas.{path_ind, parent-child, is_root-child}
use Rattle.svn_repo.specs.History.{History, node_at, walk, look}
use Rattle.svn_repo.specs.Readings.{is_directory, is_directory_at, kind_of, are_related}
use Rattle.svn_report.specs.declared.entry.ReportEntry.{ReportEntry}
use Rattle.svn_report.specs.declared.entry.ReportEntry.TheVariants.{DeletePath}
use Rattle.svn_report.specs.Reports.{entry_at}
use Rattle.svn_model.specs.Sources.{reported, revision_of, is_set_or_link, source_at}
use Rattle.svn_model.specs.declared.report_fault.ReportFault.TheVariants.{NoSuchRevision, NoNode, RootNotDir, ParentNotDir}
use Rattle.svn_model.specs.Checks.{fault_of, first_fault_from, first_fault_in, IsCheckable, target_fault}
use Rattle.svn_model.specs.Follow.{DriveInput, source_node, target_node, target_path}
use Rattle.svn_model.specs.declared.base_node.BaseNode.{BaseNode}
use Rattle.svn_model.specs.declared.base_node.BaseNode.TheVariants.{File as FileNode, Dir as DirNode, NotPresent}
use Rattle.svn_model.specs.Nodes.{get_in, is_present, is_dir, is_incomplete, node_revision, node_path, IsTrueNode}
use Rattle.svn_model.specs.Crawl.{entry_for, reported_at, crawl}
use Rattle.svn_editor.specs.declared.mode.Mode.{Mode}
use Rattle.law_update.specs.Laws.{IsTrueCopy, HasTarget, IsRequestOf, request_of, crawl_says_what_stands}
use Rattle.law_copy.proofs.CrawlReports.{crawl_report}
use Rattle.law_drive.proofs.ReportDrives.{tested}
use Rattle.law_update.proofs.CrawlDescribes.{covers, source_present, own-crawled, not_present_own, describes}
use Rattle.law_copy.proofs.NodeLists.{AllIn, all_in}
use Rattle.law_copy.proofs.Crawls.{crawled, entry_at-crawl}
use Rattle.law_drive.proofs.Reporting.{own_governs}

-- a node that can be looked up is in a revision that is there
pub revision_there : (h : History) (r : ℕ) (p : Path) (n : ℕ) → look h r p ≡ Some n → nat_lt r (length h.roots) ≡ true
revision_there h r p n e = lt-ltb r (length h.roots) (there h.roots r (by (slice_get h.roots r) e))
  where
    by : (o : Option ℕ) → option_and_then (λ m. walk (node_at h) m p) o ≡ Some n → is_some o ≡ true
    by None q = cc
    by (Some m) q = refl

    there : (xs : List ℕ) (i : ℕ) → is_some (slice_get xs i) ≡ true → i < length xs
    there [] i q = absurd (true≢false (sym q))
    there (x ∷ xs) zero q = omega arith
    there (x ∷ xs) (suc i) q = omega (arith, there xs i q)

module _ (h : History) (nodes : List (Path × BaseNode)) (t : IsTrueCopy h nodes) where
  -- a directory in the copy is one in the source
  pub directory_there : (p : Path) (node : Option BaseNode) → get_in nodes p ≡ node → IsTrueNode h (get_in nodes) p node
      → is_dir node ≡ true → is_directory_at h (source_at h (crawl nodes) p) ≡ true
  directory_there p None e tr k = absurd (true≢false (sym k))
  directory_there p (Some NotPresent) e tr k = absurd (true≢false (sym k))
  directory_there p (Some (FileNode r q x ps)) e tr k = absurd (true≢false (sym k))
  directory_there p (Some (DirNode r q c ps)) e tr k =
      let s = source_present h nodes t p (Some (DirNode r q c ps)) e tr refl in
      ap (is_directory_at h) s.1 ∙ ap is_directory (ap (kind_of h) (same_Some s.0 tr.0 (sym s.2 ∙ tr.1)) ∙ tr.2.kind)

  entry_fits : (p : Path) (b : BaseNode) (x : ReportEntry) → get_in nodes p ≡ Some b → (reported (crawl nodes) p).own ≡ Some x
      → is_set_or_link (Some x) ≡ true → is_present (Some b) ≡ true
      → (nat_lt (revision_of (Some x)) (length h.roots) ≡ true) × (is_none (source_at h (crawl nodes) p) ≡ false)
  entry_fits p b x e o k pr =
      let s = source_present h nodes t p (Some b) e (subst (IsTrueNode h (get_in nodes) p) e (t.true_of p)) pr in
      let g = own_governs (crawl nodes) p x o in
      let rev : revision_of (Some x) ≡ node_revision (Some b) =
      sym (ap revision_of g) ∙ ((covers h nodes t p).present (ap is_present e ∙ pr)).revision ∙ ap node_revision e in
      (ap (λ r. nat_lt r (length h.roots)) rev ∙ revision_there h (node_revision (Some b)) (node_path (Some b)) s.0 s.2, ap is_none s.1)

  -- where a set or a link is, a node is present
  set_is_present : (p : Path) (b : BaseNode) (x : ReportEntry) → get_in nodes p ≡ Some b → (reported (crawl nodes) p).own ≡ Some x
      → is_present (Some b) ≡ true → is_set_or_link (Some x) ≡ true
  set_is_present p b x e o pr =
      sym (ap is_set_or_link (own_governs (crawl nodes) p x o)) ∙ ((covers h nodes t p).present (ap is_present e ∙ pr)).set

  -- the fault of an entry at a path whose parent, or itself at the root, is a directory
  present_fault : (p : Path) (b : BaseNode) (x : ReportEntry) (i : ℕ) → get_in nodes p ≡ Some b → (reported (crawl nodes) p).own ≡ Some x
      → is_present (Some b) ≡ true
      → (is_root p && not (is_directory_at h (source_at h (crawl nodes) p))) ≡ false
      → (not (is_root p) && not (is_directory_at h (source_at h (crawl nodes) (parent p)))) ≡ false
      → fault_of h (crawl nodes) i p x ≡ None
  present_fault p b x i e o pr c d =
      let k = set_is_present p b x e o pr in
      let f = entry_fits p b x e o k pr in
      none_from_four _ _ _ _ (NoSuchRevision i) (NoNode i) RootNotDir (ParentNotDir i)
      (ap (λ y. is_set_or_link (Some x) && not y) f.0 ∙ and-false (is_set_or_link (Some x)))
      (ap (λ y. is_set_or_link (Some x) && y) f.1 ∙ and-false (is_set_or_link (Some x))) c d

  root_directory : is_directory_at h (source_at h (crawl nodes) []) ≡ true
  root_directory = directory_there [] (get_in nodes []) refl (t.true_of []) t.shape.root

  parent_directory : (p : Path) (name : Name) (b : BaseNode) → get_in nodes (child p name) ≡ Some b
      → is_directory_at h (source_at h (crawl nodes) (parent (child p name))) ≡ true
  parent_directory p name b e =
      ap (λ q. is_directory_at h (source_at h (crawl nodes) q)) (parent-child p name)
      ∙ directory_there p (get_in nodes p) refl (t.true_of p) (t.shape.parents p name (λ q. let n = sym e ∙ q in cc))

  abbrev FaultNone : Path → Type 0
  FaultNone p =
      (b : BaseNode) (x : ReportEntry) (i : ℕ) → get_in nodes p ≡ Some b → (reported (crawl nodes) p).own ≡ Some x
      → fault_of h (crawl nodes) i p x ≡ None

  fault_root : FaultNone []
  fault_root NotPresent x i e o = absurd (true≢false (sym t.shape.root ∙ ap is_dir e))
  fault_root (FileNode r q c ps) x i e o = absurd (true≢false (sym t.shape.root ∙ ap is_dir e))
  fault_root (DirNode r q c ps) x i e o = present_fault [] (DirNode r q c ps) x i e o refl (ap not root_directory) refl

  below_root : (p : Path) (name : Name)
      → (is_root (child p name) && not (is_directory_at h (source_at h (crawl nodes) (child p name)))) ≡ false
  below_root p name = ap (λ y. y && not (is_directory_at h (source_at h (crawl nodes) (child p name)))) (is_root-child p name)

  parent_fits : (p : Path) (name : Name) (b : BaseNode) → get_in nodes (child p name) ≡ Some b
      → (not (is_root (child p name)) && not (is_directory_at h (source_at h (crawl nodes) (parent (child p name))))) ≡ false
  parent_fits p name b e =
      ap (λ y. not (is_root (child p name)) && not y) (parent_directory p name b e) ∙ and-false (not (is_root (child p name)))

  deleted_is : (i : Bool) (x : ReportEntry) → cond i None (Some DeletePath) ≡ Some x → x ≡ DeletePath
  deleted_is true x k = cc
  deleted_is false x k = cc

  fault_child : (p : Path) (name : Name) → FaultNone (child p name)
  fault_child p name (FileNode r q c ps) x i e o =
      present_fault (child p name) (FileNode r q c ps) x i e o refl (below_root p name) (parent_fits p name (FileNode r q c ps) e)
  fault_child p name (DirNode r q c ps) x i e o =
      present_fault (child p name) (DirNode r q c ps) x i e o refl (below_root p name) (parent_fits p name (DirNode r q c ps) e)
  fault_child p name NotPresent x i e o =
      let own = sym (not_present_own h nodes t p name (covers h nodes t p) (get_in nodes p) refl e) ∙ o in
      let is = deleted_is (is_incomplete (get_in nodes p)) x own in
      let k : is_set_or_link (Some x) ≡ false = ap (λ y. is_set_or_link (Some y)) is in
      none_from_four _ _ _ _ (NoSuchRevision i) (NoNode i) RootNotDir (ParentNotDir i)
      (ap (λ y. y && not (nat_lt (revision_of (Some x)) (length h.roots))) k)
      (ap (λ y. y && is_none (source_at h (crawl nodes) (child p name))) k) (below_root p name) (parent_fits p name NotPresent e)

  fault_none : (p : Path) → FaultNone p
  fault_none = path_ind FaultNone fault_root (λ p name ih. fault_child p name)

  no_fault_from : (i : ℕ) (es : List (Path × BaseNode)) → AllIn (get_in nodes) es
      → first_fault_from h (crawl nodes) i (filter_map (reported_at nodes) es) ≡ None
  no_fault_from i [] a = refl
  no_fault_from i (e ∷ es) a =
      by (entry_for e.0 (get_in nodes (parent e.0)) (Some e.1)) refl (no_fault_from i es a.1) (no_fault_from (i + 1) es a.1)
    where
      by : (o : Option ReportEntry) → entry_for e.0 (get_in nodes (parent e.0)) (Some e.1) ≡ o
          → first_fault_from h (crawl nodes) i (filter_map (reported_at nodes) es) ≡ None
          → first_fault_from h (crawl nodes) (i + 1) (filter_map (reported_at nodes) es) ≡ None
          → first_fault_from h (crawl nodes) i (cons_option (option_map (λ entry. (e.0, entry)) o) (filter_map (reported_at nodes) es))
          ≡ None
      by None q u v = u
      by (Some x) q u v =
          let own = own-crawled h nodes t e.0 ∙ ap (crawled nodes e.0) a.0 ∙ q in
          ap (λ f. option_or f (first_fault_from h (crawl nodes) (i + 1) (filter_map (reported_at nodes) es)))
          (fault_none e.0 e.1 x i a.0 own) ∙ v

  -- the root has an entry
  root_entry : is_some (entry_at (crawl nodes).entries []) ≡ true
  root_entry = ap is_some (entry_at-crawl nodes t.in_order []) ∙ by (get_in nodes []) t.shape.root
    where
      by : (node : Option BaseNode) → is_dir node ≡ true → is_some (crawled nodes [] node) ≡ true
      by None k = absurd (true≢false (sym k))
      by (Some b) k = refl

  checkable : IsCheckable h (crawl nodes)
  checkable = by (crawl nodes).entries root_entry (no_fault_from 0 nodes (all_in nodes t.in_order))
    where
      by : (es : List (Path × ReportEntry)) → is_some (entry_at es []) ≡ true → first_fault_from h (crawl nodes) 0 es ≡ None
          → first_fault_in h (crawl nodes) es ≡ None
      by [] k f = absurd (true≢false (sym k))
      by (e ∷ es) k f = f

pub crawl_says : crawl_says_what_stands
crawl_says h nodes t = record {
  report = crawl_report nodes t.in_order t.shape;
  checkable = checkable h nodes t;
  describes = describes h nodes t;
}

-- the request of a true copy by its crawl
pub crawl_asks : (h : History) (nodes : List (Path × BaseNode)) (target : ℕ) (mode : Mode) (checksum : List ℕ → List ℕ) → IsTrueCopy h nodes
    → HasTarget (request_of h nodes target mode checksum)
    → IsRequestOf (request_of h nodes target mode checksum) (get_in nodes)
crawl_asks h nodes target mode checksum t has = record {
  history = t.history;
  shape = t.shape;
  true_of = t.true_of;
  report = crawl_report nodes t.in_order t.shape;
  checkable = checkable h nodes t;
  describes = describes h nodes t;
  has_target = has;
}

-- ---- targets

pub no_target_fault : (d : DriveInput) → are_related d.history (source_node d []) (target_node d []) ≡ true → target_fault d ≡ None
no_target_fault d h = by (source_node d []) (target_node d []) refl h
  where
    by : (s t : Option ℕ) → target_node d [] ≡ t → are_related d.history s t ≡ true
        → tested (nat_lt d.target (length d.history.roots)) (is_none t) (are_related d.history s t) ≡ None
    by None t e k = absurd (true≢false (sym k))
    by (Some m) None e k = absurd (true≢false (sym k))
    by (Some m) (Some n) e k = (λ i. tested (revision_there d.history d.target (target_path d []) n e i) false (k i))
