-- The calls of a whole walk are those of a drive.
use Rattle.std.proofs.Common.{◌≡◌, ℕ, ◌≤◌, Bool, List, [], ◌∷◌, ◌++◌, refl, sym, ◌∙◌, ap, subst, append_assoc, arith}
use Rattle.std.specs.Prelude.{None}
use Rattle.svn_repo.specs.Readings.{IsHistory}
use Rattle.svn_editor.specs.declared.call.Call.{Call}
use Rattle.svn_editor.specs.declared.call.Call.TheVariants.{SetTargetRevision, CloseEdit}
use Rattle.svn_report.specs.LawfulReports.{IsReport}
use Rattle.svn_model.specs.Checks.{IsCheckable, target_fault}
use Rattle.svn_model.specs.Follow.{DriveInput}
use Rattle.svn_model.specs.Drive.{IsDrive}
use Rattle.svn_model.specs.Tree.{drive_steps}
use Rattle.svn_model.specs.TreeCalls.{tree_calls, late_calls, height_at, visit_calls, drive_calls}
use Rattle.law_drive.proofs.ReportDrives.{drive_of_report}
use Rattle.law_drive.proofs.TreeNumbers.{drive_numbered}

-- ---- by a height

module _ (d : DriveInput) (history : IsHistory d.history) (report : IsReport d.report) (checkable : IsCheckable d.history d.report)
    (target : target_fault d ≡ None) where
  -- all calls, with trees of that height
  abbrev whole : Bool → ℕ → List Call
  whole late height =
      SetTargetRevision d.target ∷ (tree_calls d late height [] 0 0 ++ (late_calls d late height [] 0 0 ++ (CloseEdit ∷ [])))

  whole_drive : (late : Bool) (height : ℕ) → 129 ≤ height → IsDrive d late (whole late height)
  whole_drive late height enough = record {
    steps = drive_steps d late height;
    of_each_path = drive_of_report d history report checkable target late height enough;
    numbered_calls =
        ap (λ (l : List Call). SetTargetRevision d.target ∷ l)
        (sym (append_assoc (tree_calls d late height [] 0 0) (late_calls d late height [] 0 0) (CloseEdit ∷ []))
        ∙ ap (λ l. l ++ (CloseEdit ∷ [])) (sym (drive_numbered d late height)));
  }

  visit-height : (late : Bool) (height : ℕ) → height_at [] ≡ height → visit_calls d late [] 0 0 ≡ tree_calls d late height [] 0 0
  unfolding visit_calls
  visit-height late height e = ap (λ n. tree_calls d late n [] 0 0) e

  late-height : (late : Bool) (height : ℕ) → 129 ≡ height → late_calls d late 129 [] 0 0 ≡ late_calls d late height [] 0 0
  late-height late height e = ap (λ n. late_calls d late n [] 0 0) e

  drive-height : (late : Bool) (height : ℕ) → 129 ≡ height → drive_calls d late ≡ whole late height
  unfolding drive_calls
  drive-height late height e =
      λ i. SetTargetRevision d.target ∷ (visit-height late height e i ++ (late-height late height e i ++ (CloseEdit ∷ [])))

  enough : (height : ℕ) → 129 ≡ height → 129 ≤ height
  enough height e = omega arith

  -- the calls are those of a drive
  pub drive_of_calls : (late : Bool) → IsDrive d late (drive_calls d late)
  drive_of_calls late = by 129 refl
    where
      by : (height : ℕ) → 129 ≡ height → IsDrive d late (drive_calls d late)
      by height e = subst (IsDrive d late) (sym (drive-height late height e)) (whole_drive late height (enough height e))
