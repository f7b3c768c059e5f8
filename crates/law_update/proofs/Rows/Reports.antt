-- Reports that a repository can't serve, and drives of reports made by hand.
use Rattle.std.specs.Prelude.{◌≡◌, ℕ, true, false, List, [], ◌∷◌, ◌++◌, Option, Some, None, refl}
use Rattle.svn_types.specs.Names.{Path}
use Rattle.svn_repo.specs.History.{History}
use Rattle.svn_editor.specs.declared.call.Call.TheVariants.{SetTargetRevision, OpenRoot, CloseDirectory, AddFile, OpenFile, ApplyText}
use Rattle.svn_editor.specs.declared.call.Call.TheVariants.{CloseFile, CloseEdit}
use Rattle.svn_report.specs.declared.entry.ReportEntry.{ReportEntry}
use Rattle.svn_report.specs.declared.entry.ReportEntry.TheVariants.{SetPath, LinkPath, DeletePath}
use Rattle.svn_report.specs.Reports.{ReportView}
use Rattle.svn_editor.specs.declared.mode.Mode.{Mode}
use Rattle.svn_editor.specs.declared.mode.Mode.TheVariants.{Update, SwitchTo}
use Rattle.svn_model.specs.declared.report_fault.ReportFault.{ReportFault}
use Rattle.svn_model.specs.declared.report_fault.ReportFault.TheVariants.{NoEntries, NoSuchRevision, NoNode, ParentNotDir, RootNotDir}
use Rattle.svn_model.specs.declared.drive_fault.DriveFault.{DriveFault}
use Rattle.svn_model.specs.declared.drive_fault.DriveFault.TheVariants.{NoSuchTarget, NoRoot, OtherRoot}
use Rattle.svn_model.specs.Checks.{first_fault, target_fault}
use Rattle.law_update.proofs.Rows.Setting.{b, f, g, t, x, abc, a, at, at2, dir, file, history_of, ask, drive_within}
use Rattle.law_update.proofs.Rows.Plain.{k}
use Rattle.law_update.proofs.Rows.Whole.{branched}

abbrev reporting : List (Path × ReportEntry) → ReportView
reporting entries = record { root = []; entries = entries }

abbrev of_k : List (Path × ReportEntry) → Option ReportFault
of_k entries = first_fault k (reporting entries)

-- ---- the first fault

no_entries : of_k [] ≡ Some NoEntries
no_entries = refl

no_revision : of_k (([], SetPath 3 false) ∷ []) ≡ Some (NoSuchRevision 0)
no_revision = refl

no_node : of_k (([], SetPath 1 false) ∷ (at g, SetPath 1 false) ∷ []) ≡ Some (NoNode 1)
no_node = refl

-- a delete of what isn't there
nothing_deleted : of_k (([], SetPath 1 false) ∷ (at g, DeletePath) ∷ []) ≡ None
nothing_deleted = refl

-- a directory became a file: an entry below it has a node in its own revision, and no directory above
abbrev turned : History
turned =
    history_of (0 ∷ 1 ∷ 3 ∷ 5 ∷ [])
    (dir 0 [] ∷ dir 0 ((f, 2) ∷ []) ∷ file 1 a ∷ dir 0 ((f, 4) ∷ []) ∷ dir 2 [] ∷ dir 0 ((f, 6) ∷ []) ∷ dir 2 ((x, 7) ∷ []) ∷ file 3 a ∷ [])

parent_is_file : first_fault turned (reporting (([], SetPath 1 false) ∷ (at2 f x, SetPath 3 false) ∷ [])) ≡ Some (ParentNotDir 1)
parent_is_file = refl

linked_nothing : of_k (([], SetPath 1 false) ∷ (at g, LinkPath (at x) 1 false) ∷ []) ≡ Some (NoNode 1)
linked_nothing = refl

linked_later : of_k (([], SetPath 1 false) ∷ (at g, LinkPath (at f) 3 false) ∷ []) ≡ Some (NoSuchRevision 1)
linked_later = refl

below_linked_file : of_k (([], SetPath 1 false) ∷ (at g, LinkPath (at f) 1 false) ∷ (at2 g x, SetPath 1 false) ∷ []) ≡ Some (NoNode 2)
below_linked_file = refl

deleted_below_file : of_k (([], SetPath 1 false) ∷ (at g, LinkPath (at f) 1 false) ∷ (at2 g x, DeletePath) ∷ []) ≡ Some (ParentNotDir 2)
deleted_below_file = refl

root_is_file : first_fault branched (record { root = at2 t f; entries = ([], SetPath 1 false) ∷ [] }) ≡ Some RootNotDir
root_is_file = refl

-- ---- targets

abbrev trunk_to : Mode → ℕ → Option DriveFault
trunk_to mode target = target_fault (ask mode branched (record { root = at t; entries = ([], SetPath 1 false) ∷ [] }) target)

no_target : trunk_to (SwitchTo (at b)) 9 ≡ Some NoSuchTarget
no_target = refl

no_root : trunk_to (SwitchTo (at b)) 1 ≡ Some NoRoot
no_root = refl

another_root : trunk_to (SwitchTo []) 3 ≡ Some OtherRoot
another_root = refl

file_root : trunk_to (SwitchTo (at2 t f)) 3 ≡ Some OtherRoot
file_root = refl

-- a later revision without the root of the copy
abbrev pruned : History
pruned = record { roots = branched.roots ++ 11 ∷ []; nodes = branched.nodes ++ dir 0 ((b, 9) ∷ []) ∷ []; lines = branched.lines }

root_gone : target_fault (ask Update pruned (record { root = at t; entries = ([], SetPath 1 false) ∷ [] }) 4) ≡ Some NoRoot
root_gone = refl

its_root : trunk_to (SwitchTo (at b)) 3 ≡ None
its_root = refl

-- ---- drives

-- the entries of a directory that starts empty are sent, but for those that are reported
file_kept : drive_within 3 false (ask Update k (reporting (([], SetPath 2 true) ∷ (at f, SetPath 1 false) ∷ [])) 2)
    ≡ SetTargetRevision 2 ∷ OpenRoot 2 0 ∷ OpenFile (at f) 0 1 1 ∷ ApplyText 1 (Some a) abc ∷ CloseFile 1 (Some abc) ∷ CloseDirectory 0
    ∷ CloseEdit ∷ []
file_kept = refl

file_sent : drive_within 3 false (ask Update k (reporting (([], SetPath 2 true) ∷ [])) 2)
    ≡ SetTargetRevision 2 ∷ OpenRoot 2 0 ∷ AddFile (at f) 0 1 ∷ ApplyText 1 None abc ∷ CloseFile 1 (Some abc) ∷ CloseDirectory 0 ∷ CloseEdit
    ∷ []
file_sent = refl

-- at a file it changes nothing
empty_file_start : drive_within 3 false (ask Update k (reporting (([], SetPath 1 false) ∷ (at f, SetPath 1 true) ∷ [])) 1)
    ≡ SetTargetRevision 1
    ∷ OpenRoot 1 0 ∷ CloseDirectory 0 ∷ CloseEdit ∷ []
empty_file_start = refl
