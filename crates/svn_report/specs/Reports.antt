-- What a client reports that it has: entries at paths, in the order of the reporter's calls, each path once.
--     entry_at entries p      the entry at a path
--     has_entry_below entries p      an entry is strictly below a path
--     reporter_fault entries p e      why a call is refused after those entries
use Rattle.std.specs.Prelude.{◌≡◌, ◌+◌, Bool, true, false, ◌&&◌, not, List, [], ◌∷◌, ◌++◌, length, nat_lt, Option, Some, None}
use Rattle.std.specs.Prelude.{is_some, if◌then◌else◌, Result, Ok, Err}
use Rattle.std.specs.List.{list_any}
use Rattle.svn_types.specs.Limits.{path_limit}
use Rattle.svn_types.specs.Names.{Path}
use Rattle.svn_types.specs.Paths.{path_eq, is_below, is_root}
use Rattle.svn_report.specs.declared.entry.ReportEntry.{ReportEntry}
use Rattle.svn_report.specs.declared.entry.ReportEntry.TheVariants.{SetPath, LinkPath, DeletePath}
use Rattle.svn_report.specs.declared.reporter_fault.ReporterFault.{ReporterFault}
use Rattle.svn_report.specs.declared.reporter_fault.ReporterFault.TheVariants.{NotRootFirst, Repeated, UnderDeleted, ParentLater}
use Rattle.svn_report.specs.declared.reporter_fault.ReporterFault.TheVariants.{TooDeep, Memory}

abbrev pub Entries : Type 0
Entries = List (Path × ReportEntry)

-- the repository path of the root, and the entries
pub record ReportView : Type 0 where
  pub root : Path
  pub entries : Entries

abbrev pub entry_at : Entries → Path → Option ReportEntry
entry_at [] p = None
entry_at (e ∷ es) p = if path_eq e.0 p then Some e.1 else entry_at es p

abbrev pub has_entry_below : Entries → Path → Bool
has_entry_below es p = list_any (λ e. is_below p e.0) es

abbrev pub is_set : ReportEntry → Bool
is_set (SetPath rev start_empty) = true
is_set _ = false

abbrev pub is_delete : ReportEntry → Bool
is_delete DeletePath = true
is_delete _ = false

abbrev pub is_deleted_at : Option ReportEntry → Bool
is_deleted_at None = false
is_deleted_at (Some e) = is_delete e

abbrev pub is_deleted_above : Path → Path × ReportEntry → Bool
is_deleted_above p e = is_delete e.1 && is_below e.0 p

abbrev pub is_link_too_deep : Path → ReportEntry → Bool
is_link_too_deep p (LinkPath repos_path rev start_empty) = nat_lt (length repos_path + path_limit) (length p)
is_link_too_deep p _ = false

-- the first call doesn't set the root
abbrev pub is_root_missing : Entries → Path → ReportEntry → Bool
is_root_missing [] p e = not (is_root p && is_set e)
is_root_missing (f ∷ es) p e = false

-- the faults in the order in which they are looked for
abbrev pub reporter_fault : Entries → Path → ReportEntry → Option ReporterFault
reporter_fault es p e =
    if is_root_missing es p e then Some NotRootFirst
    else if is_some (entry_at es p) then Some Repeated
    else if list_any (is_deleted_above p) es then Some UnderDeleted
    else if has_entry_below es p then Some ParentLater
    else if is_link_too_deep p e then Some TooDeep
    else None

-- the result of a call with this fault, or with none; where there is none, Memory is still allowed
abbrev pub Answers : Option ReporterFault → Result (Unit {0}) ReporterFault → Type 0
Answers None (Ok done) = Unit {0}
Answers None (Err e) = e ≡ Memory
Answers (Some fault) (Ok done) = ⊥
Answers (Some fault) (Err e) = e ≡ fault

-- the report with one more entry
abbrev pub with_entry : ReportView → Path → ReportEntry → ReportView
with_entry r p e = record { root = r.root; entries = r.entries ++ (p, e) ∷ [] }
