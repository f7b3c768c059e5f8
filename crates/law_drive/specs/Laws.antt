-- The laws of drives, as statements. Each is the contract of the function of its name, which does nothing.
--     the_tree_is_a_drive      of every checkable report the steps of the tree are a drive's
--     the_calls_are_a_drive      the calls of the walk are those of a drive
--     drive_is_determined      there is at most one
--     new_paths_have_parents      what is added is in a directory that is opened or added
--     existing_targets_have_no_fault      of a copy of the repository's root
use Rattle.std.specs.Prelude.{◌≡◌, ℕ, ◌<◌, ◌≤◌, Bool, true, ◌||◌, List, [], length, None}
use Rattle.svn_types.specs.Names.{Path}
use Rattle.svn_types.specs.Paths.{child}
use Rattle.svn_repo.specs.Readings.{IsHistory}
use Rattle.svn_editor.specs.declared.call.Call.{Call}
use Rattle.svn_report.specs.LawfulReports.{IsReport}
use Rattle.svn_model.specs.Checks.{IsCheckable, target_fault}
use Rattle.svn_model.specs.Follow.{DriveInput, root_path}
use Rattle.svn_model.specs.Steps.{IsDriveOf, is_touched, is_new}
use Rattle.svn_model.specs.Drive.{IsDrive}
use Rattle.svn_model.specs.Tree.{drive_steps}
use Rattle.svn_model.specs.TreeCalls.{drive_calls}

abbrev pub the_tree_is_a_drive : Type 0
the_tree_is_a_drive =
    (d : DriveInput) (late : Bool) (height : ℕ) → IsHistory d.history → IsReport d.report → IsCheckable d.history d.report
    → target_fault d ≡ None → 129 ≤ height
    → IsDriveOf d late (drive_steps d late height)

abbrev pub the_calls_are_a_drive : Type 0
the_calls_are_a_drive =
    (d : DriveInput) (late : Bool) → IsHistory d.history → IsReport d.report → IsCheckable d.history d.report → target_fault d ≡ None
    → IsDrive d late (drive_calls d late)

abbrev pub drive_is_determined : Type 0
drive_is_determined = (d : DriveInput) (late : Bool) (xs ys : List Call) → IsDrive d late xs → IsDrive d late ys → xs ≡ ys

-- so the definition of a new path needn't say it
abbrev pub new_paths_have_parents : Type 0
new_paths_have_parents =
    (d : DriveInput) → IsHistory d.history → IsReport d.report → IsCheckable d.history d.report → target_fault d ≡ None
    → (p : Path) (name : List ℕ) → is_new d (child p name) ≡ true → (is_touched d p || is_new d p) ≡ true

-- where the report is of the repository's root, and leads there, each target that is there has no fault
abbrev pub existing_targets_have_no_fault : Type 0
existing_targets_have_no_fault =
    (d : DriveInput) → IsHistory d.history → IsReport d.report → IsCheckable d.history d.report
    → d.report.root ≡ [] → root_path d.mode d.report.root ≡ [] → d.target < length d.history.roots
    → target_fault d ≡ None
