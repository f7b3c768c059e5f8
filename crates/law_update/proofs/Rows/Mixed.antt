-- Updates of copies of several revisions, and of copies that an earlier run left in part.
use Rattle.std.specs.Prelude.{◌≡◌, true, false, List, [], ◌∷◌, Some, None, refl}
use Rattle.svn_types.specs.Names.{Path}
use Rattle.svn_repo.specs.History.{History}
use Rattle.svn_report.specs.declared.entry.ReportEntry.TheVariants.{SetPath}
use Rattle.svn_editor.specs.declared.mode.Mode.TheVariants.{Update}
use Rattle.svn_editor.specs.declared.call.Call.TheVariants.{SetTargetRevision, OpenRoot, OpenDirectory, ChangeDirProp, CloseDirectory}
use Rattle.svn_editor.specs.declared.call.Call.TheVariants.{OpenFile, ApplyText, CloseFile, CloseEdit}
use Rattle.svn_model.specs.declared.base_node.BaseNode.TheVariants.{Dir as DirNode}
use Rattle.svn_model.specs.Nodes.{WorkingCopy, listed}
use Rattle.svn_model.specs.Crawl.{crawl}
use Rattle.svn_model.specs.Builders.{checkout, placed}
use Rattle.svn_model.specs.Effects.{after}
use Rattle.law_update.proofs.Rows.Setting.{history_of, a, d, f, x, y, abc, at, at2, dir, dir_with, file, drive, stopped, whole, partial, plain}
use Rattle.law_update.proofs.Rows.Plain.{k, k_paths, k_copy, k_calls}

-- a file of an older revision
abbrev pub grown : History
grown =
    history_of (0 ∷ 1 ∷ 4 ∷ 7 ∷ 9 ∷ [])
    (dir 0 [] ∷ dir 0 ((d, 2) ∷ []) ∷ dir 1 ((x, 3) ∷ []) ∷ file 2 a ∷ dir 0 ((d, 5) ∷ []) ∷ dir 1 ((x, 6) ∷ []) ∷ file 2 abc
    ∷ dir 0 ((d, 5) ∷ (y, 8) ∷ []) ∷ file 3 a ∷ dir 0 ((d, 5) ∷ (y, 10) ∷ []) ∷ file 3 abc ∷ [])

abbrev pub mixed : WorkingCopy
mixed = placed grown (checkout grown [] 3) (at2 d x) (at2 d x) 1

abbrev pub mixed_paths : List Path
mixed_paths = [] ∷ at d ∷ at2 d x ∷ at y ∷ []

mixed_report : (crawl (listed mixed_paths mixed)).entries ≡ ([], SetPath 3 false) ∷ (at2 d x, SetPath 1 false) ∷ []
mixed_report = refl

mixed_drive : drive false Update grown mixed_paths mixed 4
    ≡ SetTargetRevision 4 ∷ OpenRoot 3 0 ∷ OpenDirectory (at d) 0 3 1 ∷ OpenFile (at2 d x) 1 1 2 ∷ ApplyText 2 (Some a) abc
    ∷ CloseFile 2 (Some abc) ∷ CloseDirectory 1
    ∷ OpenFile (at y) 0 3 3 ∷ ApplyText 3 (Some a) abc ∷ CloseFile 3 (Some abc) ∷ CloseDirectory 0 ∷ CloseEdit ∷ []
mixed_drive = refl

mixed_after : listed mixed_paths (after Update mixed (drive false Update grown mixed_paths mixed 4))
    ≡ ([], whole 4 []) ∷ (at d, whole 4 (at d)) ∷ (at2 d x, plain 4 (at2 d x) abc) ∷ (at y, plain 4 (at y) abc) ∷ []
mixed_after = refl

-- stopped after three calls, and resumed
abbrev k_stopped : WorkingCopy
k_stopped = stopped Update k_copy 3 k_calls

stopped_nodes : listed k_paths k_stopped ≡ ([], partial 2 []) ∷ (at f, plain 1 (at f) a) ∷ []
stopped_nodes = refl

stopped_report : (crawl (listed k_paths k_stopped)).entries ≡ ([], SetPath 2 true) ∷ (at f, SetPath 1 false) ∷ []
stopped_report = refl

resumed_drive : drive false Update k k_paths k_stopped 2
    ≡ SetTargetRevision 2 ∷ OpenRoot 2 0 ∷ OpenFile (at f) 0 1 1 ∷ ApplyText 1 (Some a) abc ∷ CloseFile 1 (Some abc) ∷ CloseDirectory 0
    ∷ CloseEdit ∷ []
resumed_drive = refl

resumed_after : listed k_paths (after Update k_stopped (drive false Update k k_paths k_stopped 2)) ≡ ([], whole 2 [])
    ∷ (at f, plain 2 (at f) abc) ∷ []
resumed_after = refl

-- a directory with a property, stopped between its changes and its close
abbrev prop_moved : History
prop_moved =
    history_of (0 ∷ 1 ∷ 3 ∷ [])
    (dir 0 [] ∷ dir 0 ((d, 2) ∷ []) ∷ dir_with 1 ((112 ∷ [], 49 ∷ []) ∷ []) ∷ dir 0 ((d, 4) ∷ []) ∷ dir_with 1 ((113 ∷ [], 50 ∷ []) ∷ [])
    ∷ [])

abbrev prop_paths : List Path
prop_paths = [] ∷ at d ∷ []

abbrev prop_stopped : WorkingCopy
prop_stopped = stopped Update (checkout prop_moved [] 1) 5 (drive false Update prop_moved prop_paths (checkout prop_moved [] 1) 2)

prop_drive : drive false Update prop_moved prop_paths (checkout prop_moved [] 1) 2
    ≡ SetTargetRevision 2 ∷ OpenRoot 1 0 ∷ OpenDirectory (at d) 0 1 1 ∷ ChangeDirProp 1 (112 ∷ []) None
    ∷ ChangeDirProp 1 (113 ∷ []) (Some (50 ∷ [])) ∷ CloseDirectory 1
    ∷ CloseDirectory 0 ∷ CloseEdit ∷ []
prop_drive = refl

prop_stopped_nodes : listed prop_paths prop_stopped ≡ ([], partial 2 []) ∷ (at d, DirNode 2 (at d) false ((112 ∷ [], 49 ∷ []) ∷ [])) ∷ []
prop_stopped_nodes = refl

prop_report : (crawl (listed prop_paths prop_stopped)).entries ≡ ([], SetPath 2 true) ∷ (at d, SetPath 2 true) ∷ []
prop_report = refl

prop_resumed : drive false Update prop_moved prop_paths prop_stopped 2
    ≡ SetTargetRevision 2 ∷ OpenRoot 2 0 ∷ OpenDirectory (at d) 0 2 1 ∷ ChangeDirProp 1 (113 ∷ []) (Some (50 ∷ [])) ∷ CloseDirectory 1
    ∷ CloseDirectory 0 ∷ CloseEdit ∷ []
prop_resumed = refl

prop_after : listed prop_paths (after Update prop_stopped (drive false Update prop_moved prop_paths prop_stopped 2))
    ≡ ([], whole 2 []) ∷ (at d, DirNode 2 (at d) true ((113 ∷ [], 50 ∷ []) ∷ [])) ∷ []
prop_after = refl
