-- Texts after the directories.
use Rattle.std.specs.Prelude.{◌≡◌, true, false, List, [], ◌∷◌, length, Some, None, refl}
use Rattle.svn_report.specs.declared.entry.ReportEntry.TheVariants.{SetPath, DeletePath}
use Rattle.svn_editor.specs.declared.mode.Mode.TheVariants.{Update}
use Rattle.svn_editor.specs.declared.call.Call.{Call}
use Rattle.svn_editor.specs.declared.call.Call.TheVariants.{SetTargetRevision, OpenRoot, OpenDirectory, CloseDirectory, AddFile, OpenFile}
use Rattle.svn_editor.specs.declared.call.Call.TheVariants.{ApplyText, CloseFile, CloseEdit}
use Rattle.svn_model.specs.declared.base_node.BaseNode.TheVariants.{NotPresent}
use Rattle.svn_model.specs.Nodes.{WorkingCopy, listed}
use Rattle.svn_model.specs.Crawl.{crawl}
use Rattle.svn_model.specs.Builders.{checkout}
use Rattle.svn_model.specs.Effects.{after}
use Rattle.law_update.proofs.Rows.Setting.{a, d, f, x, y, abc, at, at2, drive, refused, stopped, whole, plain}
use Rattle.law_update.proofs.Rows.Plain.{empty}
use Rattle.law_update.proofs.Rows.Mixed.{grown, mixed, mixed_paths}

abbrev late_calls : List Call
late_calls =
    SetTargetRevision 4 ∷ OpenRoot 3 0 ∷ OpenDirectory (at d) 0 3 1 ∷ OpenFile (at2 d x) 1 1 2 ∷ CloseDirectory 1 ∷ OpenFile (at y) 0 3 3
    ∷ CloseDirectory 0
    ∷ ApplyText 2 (Some a) abc ∷ CloseFile 2 (Some abc) ∷ ApplyText 3 (Some a) abc ∷ CloseFile 3 (Some abc) ∷ CloseEdit ∷ []

late_drive : drive true Update grown mixed_paths mixed 4 ≡ late_calls
late_drive = refl

late_accepted : refused Update mixed_paths mixed late_calls ≡ []
late_accepted = refl

late_after : listed mixed_paths (after Update mixed late_calls)
    ≡ ([], whole 4 []) ∷ (at d, whole 4 (at d)) ∷ (at2 d x, plain 4 (at2 d x) abc) ∷ (at y, plain 4 (at y) abc) ∷ []
late_after = refl

abbrev late_stopped : WorkingCopy
late_stopped = stopped Update mixed 7 late_calls

late_nodes : listed mixed_paths late_stopped ≡ ([], whole 4 []) ∷ (at d, whole 4 (at d)) ∷ (at2 d x, plain 1 (at2 d x) a)
    ∷ (at y, plain 3 (at y) a) ∷ []
late_nodes = refl

late_report : (crawl (listed mixed_paths late_stopped)).entries ≡ ([], SetPath 4 false) ∷ (at2 d x, SetPath 1 false)
    ∷ (at y, SetPath 3 false) ∷ []
late_report = refl

late_resumed : listed mixed_paths (after Update late_stopped (drive false Update grown mixed_paths late_stopped 4))
    ≡ listed mixed_paths (after Update mixed late_calls)
late_resumed = refl

-- the texts of a drive in time come with the files again: twelve calls
late_resumed_calls : length (drive false Update grown mixed_paths late_stopped 4) ≡ 12
late_resumed_calls = refl

-- an empty file added
abbrev empty_calls : List Call
empty_calls =
    SetTargetRevision 1 ∷ OpenRoot 0 0 ∷ AddFile (at f) 0 1 ∷ CloseDirectory 0 ∷ ApplyText 1 None [] ∷ CloseFile 1 (Some []) ∷ CloseEdit
    ∷ []

empty_drive : drive true Update empty ([] ∷ at f ∷ []) (checkout empty [] 0) 1 ≡ empty_calls
empty_drive = refl

empty_stopped : listed ([] ∷ at f ∷ []) (stopped Update (checkout empty [] 0) 4 empty_calls) ≡ ([], whole 1 []) ∷ (at f, NotPresent) ∷ []
empty_stopped = refl

empty_report : (crawl (listed ([] ∷ at f ∷ []) (stopped Update (checkout empty [] 0) 4 empty_calls))).entries ≡ ([], SetPath 1 false)
    ∷ (at f, DeletePath) ∷ []
empty_report = refl

empty_late_resumed : drive false Update empty ([] ∷ at f ∷ []) (stopped Update (checkout empty [] 0) 4 empty_calls) 1
    ≡ SetTargetRevision 1 ∷ OpenRoot 1 0 ∷ AddFile (at f) 0 1 ∷ ApplyText 1 None [] ∷ CloseFile 1 (Some []) ∷ CloseDirectory 0 ∷ CloseEdit
    ∷ []
empty_late_resumed = refl
