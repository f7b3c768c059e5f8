-- What a checkable report asks for can be served, and the list of the tree is its drive.
use Rattle.std.proofs.Common.{◌≡◌, ℕ, ◌+◌, ◌≤◌, Bool, true, false, ◌&&◌, ◌||◌, not, List, [], ◌∷◌, length, refl, sym, ◌∙◌, ap, true≢false}
use Rattle.std.proofs.Common.{length-append, arith}
use Rattle.std.specs.Prelude.{Option, Some, None, is_some, is_none, cond, nat_lt}
use Rattle.std.specs.Option.{option_or}
use Rattle.std.proofs.lemmas.Bool.{and_parts, not-false}
use Rattle.std.proofs.lemmas.Option.{none-some, same_Some}
use Rattle.svn_lists.proofs.Options.{cond_none_four, cond_none, some-none}
use Rattle.svn_types.specs.Names.{Path}
use Rattle.svn_types.specs.Paths.{path_eq, child, parent}
use Rattle.svn_types.specs.declared.kind.Kind.{Kind}
use Rattle.svn_types.specs.declared.kind.Kind.TheVariants.{File, Directory}
use Rattle.svn_types.specs.Pairs.{value_of}
use Rattle.svn_types.proofs.NameLemmas.{Name}
use Rattle.svn_types.proofs.PathLemmas.{same_path, path_ind, parent-child, is_root-child}
use Rattle.svn_repo.specs.History.{History, look}
use Rattle.svn_repo.specs.Readings.{IsHistory, is_directory, is_directory_at, are_related, kind_of, entries_of}
use Rattle.svn_report.specs.declared.entry.ReportEntry.{ReportEntry}
use Rattle.svn_report.specs.declared.entry.ReportEntry.TheVariants.{SetPath, LinkPath, DeletePath}
use Rattle.svn_report.specs.Reports.{ReportView, entry_at}
use Rattle.svn_report.specs.LawfulReports.{IsReport}
use Rattle.svn_model.specs.declared.report_fault.ReportFault.{ReportFault}
use Rattle.svn_model.specs.declared.drive_fault.DriveFault.{DriveFault}
use Rattle.svn_model.specs.declared.report_fault.ReportFault.TheVariants.{NoSuchRevision, NoNode, RootNotDir, ParentNotDir}
use Rattle.svn_model.specs.declared.drive_fault.DriveFault.TheVariants.{NoSuchTarget, NoRoot, OtherRoot}
use Rattle.svn_model.specs.Checks.{fault_of, first_fault_from, first_fault_in, IsCheckable, target_fault}
use Rattle.svn_model.specs.Sources.{Reported, reported, starts_empty, is_set_or_link, linked_or, is_hidden, source, source_at}
use Rattle.svn_model.specs.Sources.{governing_revision}
use Rattle.svn_model.specs.Follow.{DriveInput, source_node, target_node}
use Rattle.svn_model.specs.Steps.{IsDriveOf}
use Rattle.svn_model.specs.Tree.{drive_steps}
use Rattle.svn_model.proofs.Children.{entry_below, follow-here}
use Rattle.law_drive.proofs.Reporting.{IsChildOf, is_child, own-is, source_below, hidden_below, shown_source}
use Rattle.law_drive.proofs.Classes.{Served}
use Rattle.law_drive.proofs.TreePaths.{at_each_path}
use Rattle.law_drive.proofs.TreeOrder.{in_key_order}

-- ---- the fault of each entry

-- the entry at a path has no fault, where the report has none
pub no_fault : (h : History) (r : ReportView) (i : ℕ) (es : List (Path × ReportEntry)) (p : Path) (x : ReportEntry)
    → first_fault_from h r i es ≡ None → entry_at es p ≡ Some x
    → (j : ℕ) × (fault_of h r j p x ≡ None)
no_fault h r i [] p x f e = absurd (none-some x e)
no_fault h r i (e ∷ es) p x f a = by (fault_of h r i e.0 e.1) refl f (path_eq e.0 p) refl a (no_fault h r (i + 1) es p x)
  where
    by : (o : Option ReportFault) → fault_of h r i e.0 e.1 ≡ o → option_or o (first_fault_from h r (i + 1) es) ≡ None → (b : Bool)
        → path_eq e.0 p ≡ b → cond b (Some e.1) (entry_at es p) ≡ Some x
        → (first_fault_from h r (i + 1) es ≡ None → entry_at es p ≡ Some x → (j : ℕ) × (fault_of h r j p x ≡ None))
        → (j : ℕ) × (fault_of h r j p x ≡ None)
    by (Some u) q k b c y ih = absurd (some-none u k)
    by None q k true c y ih = (i, sym (λ z. fault_of h r i (same_path e.0 p c z) (same_Some e.1 x y z)) ∙ q)
    by None q k false c y ih = ih k y

-- ---- targets

-- the three tests of a target
abbrev pub tested : Bool → Bool → Bool → Option DriveFault
tested there none related = cond (not there) (Some NoSuchTarget) (cond none (Some NoRoot) (cond (not related) (Some OtherRoot) None))

related_of : (d : DriveInput) → target_fault d ≡ None → are_related d.history (source_node d []) (target_node d []) ≡ true
related_of d h =
    by (nat_lt d.target (length d.history.roots)) (is_none (target_node d []))
    (are_related d.history (source_node d []) (target_node d [])) h
  where
    by : (there none related : Bool) → tested there none related ≡ None → related ≡ true
    by there none related k =
        let first = cond_none (not there) NoSuchTarget (cond none (Some NoRoot) (cond (not related) (Some OtherRoot) None)) k in
        let second = cond_none none NoRoot (cond (not related) (Some OtherRoot) None) first.1 in
        not-false related (cond_none (not related) OtherRoot None second.1).0

module _ (d : DriveInput) (history : IsHistory d.history) (report : IsReport d.report) (checkable : IsCheckable d.history d.report) where
  abbrev h : History
  h = d.history

  abbrev says : Path → Reported
  says p = reported d.report p

  pub from_start : first_fault_from h d.report 0 d.report.entries ≡ None
  from_start = by d.report.entries checkable
    where
      by : (es : List (Path × ReportEntry)) → first_fault_in h d.report es ≡ None → first_fault_from h d.report 0 es ≡ None
      by [] k = refl
      by (e ∷ es) k = k

  -- an entry is below a directory
  entry_below_directory : (p : Path) (name : Name) (x : ReportEntry) → (says (child p name)).own ≡ Some x
      → is_directory_at h (source h (says p)) ≡ true
  entry_below_directory p name x o =
      let f = no_fault h d.report 0 d.report.entries (child p name) x from_start (sym (own-is d.report (child p name)) ∙ o) in
      let four = cond_none_four _ _ _ _ (NoSuchRevision f.0) (NoNode f.0) RootNotDir (ParentNotDir f.0) f.1 in
      let there : not (is_directory_at h (source_at h d.report (parent (child p name)))) ≡ false =
      sym (ap (λ b. not b && not (is_directory_at h (source_at h d.report (parent (child p name))))) (is_root-child p name)) ∙ four.3 in
      ap (λ q. is_directory_at h (source_at h d.report q)) (sym (parent-child p name)) ∙ not-false _ there

  -- what has an entry below it is a directory
  has_entries : (r : ℕ) (q : Path) (n m : ℕ) (name : Name) → look h r q ≡ Some n → value_of (entries_of h n) name ≡ Some m
      → is_directory (kind_of h n) ≡ true
  has_entries r q n m name e v = by (kind_of h n) refl
    where
      by : (k : Kind) → kind_of h n ≡ k → is_directory k ≡ true
      by Directory c = refl
      by File c = absurd (none-some m (sym (ap (λ es. value_of es name) (history.files_are_leaves r q n e c)) ∙ v))

  -- where a child without an entry has a source, the path has a directory
  inherits_directory : (p : Path) (name : Name) (m : ℕ) → (says (child p name)).own ≡ None → source h (says (child p name)) ≡ Some m
      → is_directory_at h (source h (says p)) ≡ true
  inherits_directory p name m o s = by_place (look h (governing_revision (says p)) (says p).repos_path) refl
    where
      c : IsChildOf (says p) (says (child p name)) name
      c = is_child d.report p name

      empty : starts_empty (says p).governing ≡ false
      empty = by (starts_empty (says p).governing) refl
        where
          by : (b : Bool) → starts_empty (says p).governing ≡ b → b ≡ false
          by true e = absurd (none-some m (sym (hidden_below h (says p) (says (child p name)) name c o e) ∙ s))
          by false e = refl

      -- the entry that governs both is a set or a link
      governed : is_set_or_link (says p).governing ≡ true
      governed =
          let shown = (shown_source h (says (child p name)) m s).0 in
          let ge : (says (child p name)).governing ≡ (says p).governing = c.governing ∙ ap (λ x. option_or x (says p).governing) o in
          sym (ap is_set_or_link ge) ∙ (and_parts (is_set_or_link (says (child p name)).governing) _ (not-false _ shown)).0

      open_here : is_hidden (says p) ≡ false
      open_here =
          ap (λ b. not (b && (is_some (says p).own || not (starts_empty (says p).governing)))) governed
          ∙ ap (λ b. not (is_some (says p).own || not b)) empty ∙ always (is_some (says p).own)
        where
          always : (b : Bool) → not (b || true) ≡ false
          always true = refl
          always false = refl

      at_path : source h (says p) ≡ look h (governing_revision (says p)) (says p).repos_path
      at_path = ap (λ b. cond b None (look h (governing_revision (says p)) (says p).repos_path)) open_here

      by_place : (place : Option ℕ) → look h (governing_revision (says p)) (says p).repos_path ≡ place
          → is_directory_at h (source h (says p)) ≡ true
      by_place None e =
          absurd (none-some m (sym (source_below h (says p) (says (child p name)) name c o (ap (λ x. entry_below h x name) e)) ∙ s))
      by_place (Some n) e = by_entry (value_of (entries_of h n) name) refl
        where
          by_entry : (v : Option ℕ) → value_of (entries_of h n) name ≡ v → is_directory_at h (source h (says p)) ≡ true
          by_entry None v =
              absurd (none-some m (sym (source_below h (says p) (says (child p name)) name c o (ap (λ x. entry_below h x name) e ∙ v)) ∙ s))
          by_entry (Some k) v =
              ap (is_directory_at h) (at_path ∙ e) ∙ has_entries (governing_revision (says p)) (says p).repos_path n k name e v

  parents : (p : Path) (name : Name) → is_some (source_node d (child p name)) ≡ true → is_directory_at h (source_node d p) ≡ true
  parents p name k =
      ap (λ s. is_directory_at h (source h s)) (follow-here d p)
      ∙ by_own (says (child p name)).own refl (source h (says (child p name))) refl
      (sym (ap (λ s. is_some (source h s)) (follow-here d (child p name))) ∙ k)
    where
      by_own : (o : Option ReportEntry) → (says (child p name)).own ≡ o → (s : Option ℕ) → source h (says (child p name)) ≡ s
          → is_some s ≡ true → is_directory_at h (source h (says p)) ≡ true
      by_own (Some x) o s e i = entry_below_directory p name x o
      by_own None o None e i = absurd (true≢false (sym i))
      by_own None o (Some m) e i = inherits_directory p name m o e

  -- no path has over 64 names more than its repository path
  abbrev IsNear : Path → Type 0
  IsNear p = length p ≤ length (says p).repos_path + 64

  longer : (p : Path) (name : Name) → IsNear p → (says (child p name)).repos_path ≡ child (says p).repos_path name → IsNear (child p name)
  longer p name ih e =
      let one : length (child p name) ≡ length p + 1 = length-append p (name ∷ []) in
      let two : length (child (says p).repos_path name) ≡ length (says p).repos_path + 1 = length-append (says p).repos_path (name ∷ []) in
      let three : length (says (child p name)).repos_path ≡ length (child (says p).repos_path name) = ap length e in
      omega arith

  near : (p : Path) → IsNear p
  near = path_ind IsNear (omega arith) (λ p name ih. by p name ih (says (child p name)).own refl)
    where
      by : (p : Path) (name : Name) → IsNear p → (o : Option ReportEntry) → (says (child p name)).own ≡ o → IsNear (child p name)
      by p name ih (Some (LinkPath q r e)) o =
          let one : length (child p name) ≤ length q + 64 =
          report.links_short (child p name) q r e (sym (own-is d.report (child p name)) ∙ o) in
          let two : length (says (child p name)).repos_path ≡ length q =
          ap length ((is_child d.report p name).repos_path ∙ ap (λ x. linked_or x (child (says p).repos_path name)) o) in
          omega arith
      by p name ih None o =
          longer p name ih ((is_child d.report p name).repos_path ∙ ap (λ x. linked_or x (child (says p).repos_path name)) o)
      by p name ih (Some (SetPath r e)) o =
          longer p name ih ((is_child d.report p name).repos_path ∙ ap (λ x. linked_or x (child (says p).repos_path name)) o)
      by p name ih (Some DeletePath) o =
          longer p name ih ((is_child d.report p name).repos_path ∙ ap (λ x. linked_or x (child (says p).repos_path name)) o)

  -- what is asked for can be served
  pub served : target_fault d ≡ None → Served d
  served t = record { history = history; has_target = related_of d t; parents = parents; near = near }

  -- and the list of the tree is its drive
  pub drive_of_report : target_fault d ≡ None → (late : Bool) (height : ℕ) → 129 ≤ height → IsDriveOf d late (drive_steps d late height)
  drive_of_report t late height enough = record {
    at_each_path = at_each_path d (served t) late height enough;
    in_order = in_key_order d late height;
  }
