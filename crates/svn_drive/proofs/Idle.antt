-- Where a walk passes a child over: one node on both sides without reports, nothing in the target below a new path, or a path that is
-- too long.
use Rattle.std.proofs.Common.{◌≡◌, ℕ, zero, suc, ◌≤◌, Bool, true, false, ◌&&◌, ◌||◌, not, List, [], ◌∷◌, length, refl, sym, ◌∙◌, ap, arith}
use Rattle.std.proofs.Common.{true≢false, inl, inr}
use Rattle.std.specs.Prelude.{Option, Some, None, is_some, cond}
use Rattle.std.proofs.lemmas.Bool.{eqb-true, or_parts}
use Rattle.std.proofs.Math.Bool.{and-false}
use Rattle.svn_lists.proofs.Tests.{nat_eq-same}
use Rattle.svn_types.proofs.NameLemmas.{Name}
use Rattle.svn_types.specs.Names.{Path}
use Rattle.svn_types.specs.Paths.{child, is_root, is_within, path_eq}
use Rattle.svn_types.specs.Pairs.{value_of}
use Rattle.svn_repo.specs.History.{History, NodeRow, node_at, child_in, look}
use Rattle.svn_repo.specs.Readings.{row_or_empty, are_related, is_directory_at, line_of}
use Rattle.svn_report.specs.declared.entry.ReportEntry.{ReportEntry}
use Rattle.svn_report.specs.Reports.{entry_at, has_entry_below}
use Rattle.svn_report.specs.ReportNames.{has_entry_within}
use Rattle.svn_editor.specs.Calls.{number_eq}
use Rattle.svn_editor.specs.declared.mode.Mode.{Mode}
use Rattle.svn_editor.specs.declared.mode.Mode.TheVariants.{Update, SwitchTo}
use Rattle.svn_editor.specs.Steps.{Delete}
use Rattle.svn_model.specs.Sources.{Reported, reported, starts_empty, linked_or, source, governing_revision}
use Rattle.svn_model.specs.Follow.{DriveInput, candidate, root_path, follow, is_kept, target_path, source_node, target_node}
use Rattle.svn_model.specs.Steps.{is_touched, is_new, starts_empty_at}
use Rattle.svn_model.specs.TreeCalls.{calls_at, height_at, visit_size, visit_calls}
use Rattle.svn_drive.specs.Waiting.{visit_late}
use Rattle.svn_drive.specs.Walking.{IsQuiet, IsLeft, IsIdle, entry_of, has_same_entry}
use Rattle.svn_types.proofs.PathLemmas.{is_within-same, same_path}
use Rattle.svn_model.proofs.Children.{path_ind, is_root-child, entry_below, look-child, follow-here, parent_is_kept-child}
use Rattle.law_drive.proofs.Reporting.{is_child, own-is, source-open}
use Rattle.law_drive.proofs.Classes.{is_kept-child, target_path-child}
use Rattle.svn_drive.proofs.Visits.{visit_calls-height, visit_size-height, visit-not_entered, size-not_entered}
use Rattle.svn_drive.proofs.Waits.{late-height, late-not_entered}

-- ---- where nothing is reported at a path or below it

none_at : (es : List (Path × ReportEntry)) (c : Path) → has_entry_within es c ≡ false → entry_at es c ≡ None
none_at [] c h = refl
none_at (e ∷ es) c h =
    let parts = or_parts (is_within c e.0) (has_entry_within es c) h in
    by (path_eq e.0 c) refl parts.0 (none_at es c parts.1)
  where
    by : (b : Bool) → path_eq e.0 c ≡ b → is_within c e.0 ≡ false → entry_at es c ≡ None → cond b (Some e.1) (entry_at es c) ≡ None
    by true q k ih = absurd (true≢false (sym (ap (is_within c) (same_path e.0 c q) ∙ is_within-same c) ∙ k))
    by false q k ih = ih

none_lower : (es : List (Path × ReportEntry)) (c : Path) → has_entry_within es c ≡ false → has_entry_below es c ≡ false
none_lower [] c h = refl
none_lower (e ∷ es) c h =
    let parts = or_parts (is_within c e.0) (has_entry_within es c) h in
    λ i. (parts.0 i && not (path_eq c e.0)) || none_lower es c parts.1 i

-- ---- where a kept path leads

module _ (d : DriveInput) where
  pub own_place : d.mode ≡ Update → (p : Path) → is_kept d p ≡ true → target_path d p ≡ (reported d.report p).repos_path
  own_place e =
      path_ind (λ p. is_kept d p ≡ true → target_path d p ≡ (reported d.report p).repos_path) (λ k. ap (λ m. root_path m d.report.root) e)
      (λ p name ih k.
      target_path-child d p name
      ∙ ap
      (λ b. cond b (candidate d.mode (reported d.report (child p name)).repos_path (child (target_path d p) name))
      (child (target_path d p) name))
      k
      ∙ ap (λ m. candidate m (reported d.report (child p name)).repos_path (child (target_path d p) name)) e)

  kept_to : (m : Mode) → d.mode ≡ m → (p : Path) → is_kept d p ≡ true → (name : Name) → (reported d.report (child p name)).own ≡ None
      → candidate m (reported d.report (child p name)).repos_path (child (target_path d p) name) ≡ child (target_path d p) name
  kept_to (SwitchTo root) e p k name o = refl
  kept_to Update e p k name o =
      (is_child d.report p name).repos_path ∙ ap (λ x. linked_or x (child (reported d.report p).repos_path name)) o
      ∙ ap (λ q. child q name) (sym (own_place e p k))

-- ---- a child with one node on both sides

module _ (d : DriveInput) (p : Path) (name : Name) (quiet : IsQuiet d p name) (m : ℕ) where
  abbrev h : History
  h = d.history

  abbrev c : Path
  c = child p name

  abbrev says : Path → Reported
  says q = reported d.report q

  abbrev there : Option ℕ
  there = look h d.target (candidate d.mode (says c).repos_path (child (target_path d p) name))

  own : (says c).own ≡ None
  own = own-is d.report c ∙ none_at d.report.entries c quiet.unreported

  in_source : (o : Option ℕ) → source_node d p ≡ o → entry_below h o name ≡ Some m → source_node d c ≡ Some m
  in_source None q e = absurd (true≢false (ap is_some (sym e)))
  in_source (Some n) q e =
      ap (source h) (follow-here d c)
      ∙ source-open h (says p) (says c) name n (is_child d.report p name) own (sym (ap (source h) (follow-here d p)) ∙ q)
      (sym (ap (λ (s : Reported). starts_empty s.governing) (follow-here d p)) ∙ quiet.shown)
      ∙ e

  idle_at : source_node d c ≡ Some m → look h d.target (child (target_path d p) name) ≡ Some m → IsLeft d c
  idle_at s t =
      let at : there ≡ Some m = ap (look h d.target) (kept_to d d.mode refl p quiet.kept name own) ∙ t in
      let kept : is_kept d c ≡ true =
      is_kept-child d p name ∙ ap (λ b. b && are_related h (source_node d c) there) quiet.kept
      ∙ ap (λ o. are_related h o there) s ∙ ap (are_related h (Some m)) at ∙ nat_eq-same (line_of h m) in
      let target : target_node d c ≡ Some m =
      ap (look h d.target) (target_path-child d p name
      ∙ ap (λ b. cond b (candidate d.mode (says c).repos_path (child (target_path d p) name)) (child (target_path d p) name)) kept)
      ∙ at in
      let same : number_eq (source_node d c) (target_node d c) ≡ true =
      ap (λ o. number_eq o (target_node d c)) s ∙ ap (number_eq (Some m)) target ∙ nat_eq-same m in
      let mine : (follow d c).here.own ≡ None = ap (λ (x : Reported). x.own) (follow-here d c) ∙ own in
      let touched : is_touched d c ≡ false =
      ap
      (λ b. (follow d c).is_kept
      && (b || not (number_eq (source_node d c) (target_node d c)) || starts_empty_at d c || has_entry_below d.report.entries c))
      (is_root-child p name)
      ∙ ap (λ b. (follow d c).is_kept && (not b || starts_empty_at d c || has_entry_below d.report.entries c)) same
      ∙ ap (λ o. (follow d c).is_kept && (starts_empty o && is_directory_at h (source_node d c) || has_entry_below d.report.entries c)) mine
      ∙ ap (λ b. (follow d c).is_kept && b) (none_lower d.report.entries c quiet.unreported)
      ∙ and-false (follow d c).is_kept in
      record {
        entered = ap (λ b. b || is_new d c) touched ∙ ap (λ b. not b && is_some (target_node d c)) kept;
        gone =
            ap (λ b. is_some (source_node d c) && not b && (follow d c).parent_is_kept) kept
            ∙ and_and_false (is_some (source_node d c)) (follow d c).parent_is_kept;
      }
    where
      and_and_false : (x y : Bool) → (x && false && y) ≡ false
      and_and_false true y = refl
      and_and_false false y = refl

pub entry-below : (h : History) (o : Option ℕ) (name : Name) → entry_of h o name ≡ entry_below h o name
entry-below h None name = refl
entry-below h (Some n) name = by (node_at h n)
  where
    by : (row : Option NodeRow) → child_in row name ≡ value_of (row_or_empty row).entries name
    by None = refl
    by (Some row) = refl

same_numbers : (x y : Option ℕ) → (is_some x && number_eq x y) ≡ true → (m : ℕ) × (x ≡ Some m) × (y ≡ Some m)
same_numbers None y e = absurd (true≢false (sym e))
same_numbers (Some m) None e = absurd (true≢false (sym e))
same_numbers (Some m) (Some n) e = (n, ap Some (eqb-true m n e), refl)

pub idle_child : (d : DriveInput) (p : Path) (name : Name) (old new : Option ℕ) → IsQuiet d p name → old ≡ source_node d p
    → new ≡ target_node d p → has_same_entry d.history old new name ≡ true → IsLeft d (child p name)
idle_child d p name old new quiet q r e =
    let s = same_numbers (entry_of d.history old name) (entry_of d.history new name) e in
    idle_at d p name quiet s.0
    (in_source d p name quiet s.0 old (sym q) (sym (entry-below d.history old name) ∙ s.1))
    (look-child d.history d.target (target_path d p) name ∙ ap (λ o. entry_below d.history o name) (sym r)
    ∙ sym (entry-below d.history new name) ∙ s.2)

-- ---- a child of what isn't kept, which the target doesn't have

pub idle_new : (d : DriveInput) (p : Path) (name : Name) (new : Option ℕ) → is_kept d p ≡ false → new ≡ target_node d p
    → entry_of d.history new name ≡ None → IsLeft d (child p name)
idle_new d p name new out r none =
    let kept : is_kept d (child p name) ≡ false =
    is_kept-child d p name
    ∙ ap
    (λ b. b
    && are_related d.history (source_node d (child p name))
    (look d.history d.target (candidate d.mode (reported d.report (child p name)).repos_path (child (target_path d p) name))))
    out in
    let target : target_node d (child p name) ≡ None =
    ap (look d.history d.target) (target_path-child d p name
    ∙ ap
    (λ b. cond b (candidate d.mode (reported d.report (child p name)).repos_path (child (target_path d p) name))
    (child (target_path d p) name))
    kept)
    ∙ look-child d.history d.target (target_path d p) name ∙ ap (λ o. entry_below d.history o name) (sym r)
    ∙ sym (entry-below d.history new name) ∙ none in
    record {
      entered =
          (λ i. kept i && changed (source_node d (child p name)) (target_node d (child p name)) || (not (kept i) && is_some (target i)));
      gone =
          ap (λ b. is_some (source_node d (child p name)) && not (is_kept d (child p name)) && b) (parent_is_kept-child d p name ∙ out)
          ∙ never (is_some (source_node d (child p name))) (not (is_kept d (child p name)));
    }
  where
    changed : Option ℕ → Option ℕ → Bool
    changed old there =
        is_root (child p name) || not (number_eq old there) || starts_empty_at d (child p name)
        || has_entry_below d.report.entries (child p name)

    never : (x y : Bool) → (x && y && false) ≡ false
    never true true = refl
    never true false = refl
    never false y = refl

-- ---- nothing is called there

module _ (d : DriveInput) (late : Bool) (c : Path) (parent own : ℕ) (idle : IsIdle d c) where
  pub idle_calls : visit_calls d late c parent own ≡ []
  idle_calls = by (height_at c) refl idle
    where
      by : (k : ℕ) → height_at c ≡ k → IsIdle d c → visit_calls d late c parent own ≡ []
      by zero e i = visit_calls-height d late c parent own 0 e
      by (suc k) e (inl left) =
          let short : length c ≤ 128 = omega (arith, e) in
          visit-not_entered d late c parent own short left.entered
          ∙ ap (λ b. calls_at c parent own (cond b (Delete (governing_revision (follow d c).here) ∷ []) [])) left.gone
      by (suc k) e (inr long) = absurd (omega (arith, e, long))

  pub idle_size : visit_size d c ≡ 0
  idle_size = by (height_at c) refl idle
    where
      by : (k : ℕ) → height_at c ≡ k → IsIdle d c → visit_size d c ≡ 0
      by zero e i = visit_size-height d c 0 e
      by (suc k) e (inl left) = let short : length c ≤ 128 = omega (arith, e) in size-not_entered d c short left.entered
      by (suc k) e (inr long) = absurd (omega (arith, e, long))

  pub idle_late : visit_late d late c parent own ≡ []
  idle_late = by (height_at c) refl idle
    where
      by : (k : ℕ) → height_at c ≡ k → IsIdle d c → visit_late d late c parent own ≡ []
      by zero e i = late-height d late c parent own 0 e
      by (suc k) e (inl left) = let short : length c ≤ 128 = omega (arith, e) in late-not_entered d late c parent own short left.entered
      by (suc k) e (inr long) = absurd (omega (arith, e, long))
