-- What check and drive return, for a report that can be served.
--     AnswersCheck fault answer      the report's first fault, or none where there is none; Memory is also allowed
--     AreOfDrive d late calls      the calls are those of the drive, where the report can be served and the target has the root
--     seen_as seen      what is seen of a path, as what a report says of it
--     fault_by h i e root here above      the fault of an entry, by the nodes at its path and above
--     fault_at h r i      the fault of the i-th entry
use Rattle.std.specs.Prelude.{◌≡◌, ℕ, ◌&&◌, not, Bool, List, ◌++◌, drop, length, nat_lt, slice_get, Option, Some, None, is_none, Result, Ok}
use Rattle.std.specs.Prelude.{Err, if◌then◌else◌}
use Rattle.std.specs.Option.{option_copied}
use Rattle.svn_types.specs.Names.{Path}
use Rattle.svn_repo.specs.History.{History}
use Rattle.svn_repo.specs.Readings.{IsHistory, is_directory_at}
use Rattle.svn_editor.specs.declared.call.Call.{Call}
use Rattle.svn_report.specs.declared.entry.ReportEntry.{ReportEntry}
use Rattle.svn_report.specs.Reports.{ReportView}
use Rattle.svn_report.specs.LawfulReports.{IsReport}
use Rattle.svn_model.specs.declared.report_fault.ReportFault.{ReportFault}
use Rattle.svn_model.specs.declared.report_fault.ReportFault.TheVariants.{Memory, NoSuchRevision, NoNode, ParentNotDir, RootNotDir}
use Rattle.svn_model.specs.Sources.{Reported, revision_of, is_set_or_link}
use Rattle.svn_model.specs.Checks.{IsCheckable, fault_of, target_fault}
use Rattle.svn_model.specs.Follow.{DriveInput}
use Rattle.svn_model.specs.Drive.{IsDrive}
use Rattle.svn_drive.specs.declared.check.Seen.{Seen}

abbrev pub IsCheckAnswer : Option ReportFault → ReportFault → Type 0
IsCheckAnswer fault Memory = Unit {0}
IsCheckAnswer fault e = fault ≡ Some e

abbrev pub AnswersCheck : Option ReportFault → Result (Unit {0}) ReportFault → Type 0
AnswersCheck fault (Ok done) = fault ≡ None
AnswersCheck fault (Err e) = IsCheckAnswer fault e

abbrev pub AreOfDrive : DriveInput → Bool → List Call → Type 0
AreOfDrive d late calls =
    IsHistory d.history → IsReport d.report → IsCheckable d.history d.report → target_fault d ≡ None → IsDrive d late calls

-- ---- the check

abbrev pub seen_as : Seen → Reported
seen_as s = record {
  path = s.path;
  own = option_copied s.own;
  governing = option_copied s.governing;
  repos_path = s.base.now ++ drop s.start s.path;
}

abbrev pub fault_by : History → ℕ → ReportEntry → Bool → Option ℕ → Option ℕ → Option ReportFault
fault_by h i e root here above =
    if is_set_or_link (Some e) && not (nat_lt (revision_of (Some e)) (length h.roots)) then Some (NoSuchRevision i)
    else if is_set_or_link (Some e) && is_none here then Some (NoNode i)
    else if root && not (is_directory_at h here) then Some RootNotDir
    else if not root && not (is_directory_at h above) then Some (ParentNotDir i)
    else None

abbrev pub fault_of_entry : History → ReportView → ℕ → Option (Path × ReportEntry) → Option ReportFault
fault_of_entry h r i None = None
fault_of_entry h r i (Some e) = fault_of h r i e.0 e.1

abbrev pub fault_at : History → ReportView → ℕ → Option ReportFault
fault_at h r i = fault_of_entry h r i (slice_get r.entries i)
