-- What a repository can't serve: in a report, and as a target.
--     first_fault h r      the first fault of a report
--     IsCheckable h r      there is none
--     target_fault d      why no drive leads to the target
use Rattle.std.specs.Prelude.{◌≡◌, ℕ, ◌+◌, ◌&&◌, not, List, [], ◌∷◌, length, nat_lt, Option, Some, None, is_none, if◌then◌else◌}
use Rattle.std.specs.Option.{option_or}
use Rattle.svn_types.specs.Names.{Path}
use Rattle.svn_types.specs.Paths.{parent, is_root}
use Rattle.svn_repo.specs.History.{History}
use Rattle.svn_repo.specs.Readings.{is_directory_at, are_related}
use Rattle.svn_report.specs.declared.entry.ReportEntry.{ReportEntry}
use Rattle.svn_report.specs.Reports.{ReportView}
use Rattle.svn_model.specs.declared.report_fault.ReportFault.{ReportFault}
use Rattle.svn_model.specs.declared.report_fault.ReportFault.TheVariants.{NoEntries, NoSuchRevision, NoNode, ParentNotDir, RootNotDir}
use Rattle.svn_model.specs.declared.drive_fault.DriveFault.{DriveFault}
use Rattle.svn_model.specs.declared.drive_fault.DriveFault.TheVariants.{NoSuchTarget, NoRoot, OtherRoot}
use Rattle.svn_model.specs.Sources.{revision_of, is_set_or_link, source_at}
use Rattle.svn_model.specs.Follow.{DriveInput, source_node, target_node}

abbrev pub fault_of : History → ReportView → ℕ → Path → ReportEntry → Option ReportFault
fault_of h r i p e =
    if is_set_or_link (Some e) && not (nat_lt (revision_of (Some e)) (length h.roots)) then Some (NoSuchRevision i)
    else if is_set_or_link (Some e) && is_none (source_at h r p) then Some (NoNode i)
    else if is_root p && not (is_directory_at h (source_at h r p)) then Some RootNotDir
    else if not (is_root p) && not (is_directory_at h (source_at h r (parent p))) then Some (ParentNotDir i)
    else None

-- of the entries from the i-th on
abbrev pub first_fault_from : History → ReportView → ℕ → List (Path × ReportEntry) → Option ReportFault
first_fault_from h r i [] = None
first_fault_from h r i (e ∷ es) = option_or (fault_of h r i e.0 e.1) (first_fault_from h r (i + 1) es)

abbrev pub first_fault_in : History → ReportView → List (Path × ReportEntry) → Option ReportFault
first_fault_in h r [] = Some NoEntries
first_fault_in h r (e ∷ es) = first_fault_from h r 0 (e ∷ es)

abbrev pub first_fault : History → ReportView → Option ReportFault
first_fault h r = first_fault_in h r r.entries

abbrev pub IsCheckable : History → ReportView → Type 0
IsCheckable h r = first_fault h r ≡ None

-- ---- targets

-- the target revision isn't there, the root of the copy isn't in it, or it is another node there
abbrev pub target_fault : DriveInput → Option DriveFault
target_fault d =
    if not (nat_lt d.target (length d.history.roots)) then Some NoSuchTarget
    else if is_none (target_node d []) then Some NoRoot
    else if not (are_related d.history (source_node d []) (target_node d [])) then Some OtherRoot
    else None
