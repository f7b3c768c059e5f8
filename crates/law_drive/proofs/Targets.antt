-- A target that is there has no fault where the root of the report is the repository's.
use Rattle.std.proofs.Common.{◌≡◌, ℕ, zero, suc, ◌<◌, true, false, ◌&&◌, not, List, [], ◌∷◌, length, refl, sym, ◌∙◌, ap, true≢false}
use Rattle.std.proofs.Common.{arith}
use Rattle.std.specs.Prelude.{Option, Some, None, is_none, cond, nat_eq, nat_lt, slice_get, option_and_then}
use Rattle.std.proofs.lemmas.Bool.{lt-ltb}
use Rattle.svn_lists.proofs.Options.{cond_none_four, some-none}
use Rattle.svn_types.specs.Names.{Path}
use Rattle.svn_types.specs.Paths.{path_eq, is_root}
use Rattle.svn_repo.specs.History.{History, node_at, walk, look}
use Rattle.svn_repo.specs.Readings.{IsHistory, is_directory_at, are_related, line_of}
use Rattle.svn_report.specs.declared.entry.ReportEntry.{ReportEntry}
use Rattle.svn_report.specs.declared.entry.ReportEntry.TheVariants.{SetPath, LinkPath, DeletePath}
use Rattle.svn_report.specs.Reports.{entry_at, is_set}
use Rattle.svn_report.specs.LawfulReports.{IsReport, IsRootFirst}
use Rattle.svn_model.specs.declared.report_fault.ReportFault.TheVariants.{NoEntries, NoSuchRevision, NoNode, RootNotDir, ParentNotDir}
use Rattle.svn_model.specs.Checks.{first_fault_in, IsCheckable, target_fault}
use Rattle.svn_model.specs.Sources.{reported, revision_of, is_set_or_link, source_at, governing_revision}
use Rattle.svn_model.specs.Follow.{DriveInput, root_path, source_node, target_node}
use Rattle.law_drive.specs.Laws.{existing_targets_have_no_fault}
use Rattle.law_drive.proofs.Reporting.{shown_source}
use Rattle.law_drive.proofs.ReportDrives.{from_start, no_fault, tested}

module _ (d : DriveInput) (history : IsHistory d.history) (report : IsReport d.report)
    (checkable : IsCheckable d.history d.report) where
  abbrev h : History
  h = d.history

  -- the root is set
  root_set : (x : ReportEntry) × (entry_at d.report.entries [] ≡ Some x) × (is_set x ≡ true)
  root_set = by d.report.entries report.root_first checkable
    where
      by : (es : List (Path × ReportEntry)) → IsRootFirst es → first_fault_in d.history d.report es ≡ None
          → (x : ReportEntry) × (entry_at es [] ≡ Some x) × (is_set x ≡ true)
      by [] f none = absurd (some-none NoEntries none)
      by (e ∷ es) f none = (e.1, ap (λ b. cond b (Some e.1) (entry_at es [])) (at_root e.0 f.0), f.1)
        where
          at_root : (p : Path) → is_root p ≡ true → path_eq p [] ≡ true
          at_root [] q = refl
          at_root (name ∷ p) q = absurd (true≢false (sym q))

  set_is : (x : ReportEntry) → is_set x ≡ true → is_set_or_link (Some x) ≡ true
  set_is (SetPath r e) q = refl
  set_is (LinkPath q r e) z = absurd (true≢false (sym z))
  set_is DeletePath z = absurd (true≢false (sym z))

  source_not_none : (x : ReportEntry) → entry_at d.report.entries [] ≡ Some x → is_set x ≡ true → is_none (source_at h d.report []) ≡ false
  source_not_none x e s =
      let f = no_fault h d.report 0 d.report.entries [] x (from_start d history report checkable) e in
      let four = cond_none_four (is_set_or_link (Some x) && not (nat_lt (revision_of (Some x)) (length h.roots)))
      (is_set_or_link (Some x) && is_none (source_at h d.report [])) (not (is_directory_at h (source_at h d.report []))) false
      (NoSuchRevision f.0) (NoNode f.0) RootNotDir (ParentNotDir f.0) f.1 in
      ap (λ b. b && is_none (source_at h d.report [])) (sym (set_is x s)) ∙ four.1

  -- so the client has a node there
  root_source : (m : ℕ) × (source_node d [] ≡ Some m)
  root_source = by (source_node d []) (source_not_none root_set.0 root_set.1 root_set.2)
    where
      by : (o : Option ℕ) → is_none o ≡ false → (m : ℕ) × (o ≡ Some m)
      by None e = absurd (true≢false e)
      by (Some m) e = (m, refl)

  -- a revision that is there has a root
  root_there : (r : ℕ) → r < length h.roots → (n : ℕ) × (look h r [] ≡ Some n)
  root_there r less = at h.roots r less
    where
      at : (xs : List ℕ) (i : ℕ) → i < length xs → (n : ℕ) × (option_and_then (λ m. walk (node_at h) m []) (slice_get xs i) ≡ Some n)
      at [] i q = absurd (omega arith)
      at (x ∷ xs) zero q = (x, refl)
      at (x ∷ xs) (suc i) q = at xs i (omega arith)

  pub no_fault_at : d.report.root ≡ [] → root_path d.mode d.report.root ≡ [] → d.target < length h.roots → target_fault d ≡ None
  no_fault_at from to less =
      let s = root_source in
      let shown = (shown_source h (reported d.report []) s.0 s.1).1 in
      let own : line_of h s.0 ≡ 0 =
      history.root_line (governing_revision (reported d.report [])) s.0
      (ap (look h (governing_revision (reported d.report []))) (sym from) ∙ shown) in
      let t = root_there d.target less in
      let target : target_node d [] ≡ Some t.0 = ap (look h d.target) to ∙ t.1 in
      let other : line_of h t.0 ≡ 0 = history.root_line d.target t.0 t.1 in
      let related : are_related h (source_node d []) (target_node d []) ≡ true =
      (λ i. are_related h (s.1 i) (target i)) ∙ (λ i. nat_eq (own i) (other i)) in
      (λ i. tested (lt-ltb d.target (length h.roots) less i) (is_none (target i)) (related i))

pub existing_targets : existing_targets_have_no_fault
existing_targets d history report checkable from to less = no_fault_at d history report checkable from to less
