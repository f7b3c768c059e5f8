-- Updates of copies of one revision.
use Rattle.std.specs.Prelude.{◌≡◌, true, false, List, [], ◌∷◌, Some, None, refl}
use Rattle.svn_types.specs.Names.{Path}
use Rattle.svn_repo.specs.History.{History}
use Rattle.svn_report.specs.declared.entry.ReportEntry.TheVariants.{SetPath, DeletePath}
use Rattle.svn_editor.specs.declared.mode.Mode.TheVariants.{Update}
use Rattle.svn_editor.specs.declared.call.Call.{Call}
use Rattle.svn_editor.specs.declared.call.Call.TheVariants.{SetTargetRevision, OpenRoot, DeleteEntry, AddDirectory, OpenDirectory}
use Rattle.svn_editor.specs.declared.call.Call.TheVariants.{ChangeDirProp, CloseDirectory, AddFile, OpenFile, ApplyText, CloseFile}
use Rattle.svn_editor.specs.declared.call.Call.TheVariants.{CloseEdit}
use Rattle.svn_model.specs.declared.base_node.BaseNode.TheVariants.{Dir as DirNode}
use Rattle.svn_model.specs.Nodes.{WorkingCopy, listed}
use Rattle.svn_model.specs.Crawl.{crawl}
use Rattle.svn_model.specs.Builders.{checkout, forgotten}
use Rattle.svn_model.specs.Effects.{after}
use Rattle.law_update.proofs.Rows.Setting.{history_of, a, b, c, d, e, f, x, abc, at, at2, dir, dir_with, file, drive, refused, whole, plain}

-- a file whose text changes
abbrev pub k : History
k = history_of (0 ∷ 1 ∷ 3 ∷ []) (dir 0 [] ∷ dir 0 ((f, 2) ∷ []) ∷ file 1 a ∷ dir 0 ((f, 4) ∷ []) ∷ file 1 abc ∷ [])

abbrev pub k_paths : List Path
k_paths = [] ∷ at f ∷ []

abbrev pub k_copy : WorkingCopy
k_copy = checkout k [] 1

abbrev pub k_calls : List Call
k_calls =
    SetTargetRevision 2 ∷ OpenRoot 1 0 ∷ OpenFile (at f) 0 1 1 ∷ ApplyText 1 (Some a) abc ∷ CloseFile 1 (Some abc) ∷ CloseDirectory 0
    ∷ CloseEdit ∷ []

text_drive : drive false Update k k_paths k_copy 2 ≡ k_calls
text_drive = refl

text_accepted : refused Update k_paths k_copy k_calls ≡ []
text_accepted = refl

text_after : listed k_paths (after Update k_copy k_calls) ≡ ([], whole 2 []) ∷ (at f, plain 2 (at f) abc) ∷ []
text_after = refl

-- directories added and taken away again
abbrev nested : History
nested = history_of (0 ∷ 1 ∷ []) (dir 0 [] ∷ dir 0 ((d, 2) ∷ []) ∷ dir 1 ((e, 3) ∷ []) ∷ dir 2 ((x, 4) ∷ []) ∷ file 3 a ∷ [])

abbrev nested_paths : List Path
nested_paths = [] ∷ at d ∷ at2 d e ∷ (d ∷ e ∷ x ∷ []) ∷ []

nested_added : drive false Update nested nested_paths (checkout nested [] 0) 1
    ≡ SetTargetRevision 1 ∷ OpenRoot 0 0 ∷ AddDirectory (at d) 0 1 ∷ AddDirectory (at2 d e) 1 2 ∷ AddFile (d ∷ e ∷ x ∷ []) 2 3
    ∷ ApplyText 3 None a ∷ CloseFile 3 (Some a)
    ∷ CloseDirectory 2 ∷ CloseDirectory 1 ∷ CloseDirectory 0 ∷ CloseEdit ∷ []
nested_added = refl

nested_added_after : listed nested_paths
    (after Update (checkout nested [] 0) (drive false Update nested nested_paths (checkout nested [] 0) 1))
    ≡ ([], whole 1 []) ∷ (at d, whole 1 (at d)) ∷ (at2 d e, whole 1 (at2 d e)) ∷ (d ∷ e ∷ x ∷ [], plain 1 (d ∷ e ∷ x ∷ []) a) ∷ []
nested_added_after = refl

nested_gone : drive false Update nested nested_paths (checkout nested [] 1) 0
    ≡ SetTargetRevision 0 ∷ OpenRoot 1 0 ∷ DeleteEntry (at d) 1 0 ∷ CloseDirectory 0 ∷ CloseEdit ∷ []
nested_gone = refl

nested_gone_after : listed nested_paths
    (after Update (checkout nested [] 1) (drive false Update nested nested_paths (checkout nested [] 1) 0))
    ≡ ([], whole 0 []) ∷ []
nested_gone_after = refl

-- properties removed, changed and set
abbrev with_props : History
with_props = history_of (0 ∷ 1 ∷ 3 ∷ []) (dir 0 [] ∷ dir 0 ((d, 2) ∷ []) ∷ dir_with 1 ((a, 49 ∷ []) ∷ (b, 50 ∷ []) ∷ (c, 51 ∷ []) ∷ [])
    ∷ dir 0 ((d, 4) ∷ []) ∷ dir_with 1 ((b, 57 ∷ []) ∷ (c, 51 ∷ []) ∷ (d, 52 ∷ []) ∷ []) ∷ [])

props_drive : drive false Update with_props ([] ∷ at d ∷ []) (checkout with_props [] 1) 2
    ≡ SetTargetRevision 2 ∷ OpenRoot 1 0 ∷ OpenDirectory (at d) 0 1 1 ∷ ChangeDirProp 1 a None ∷ ChangeDirProp 1 b (Some (57 ∷ []))
    ∷ ChangeDirProp 1 d (Some (52 ∷ []))
    ∷ CloseDirectory 1 ∷ CloseDirectory 0 ∷ CloseEdit ∷ []
props_drive = refl

props_after : listed ([] ∷ at d ∷ [])
    (after Update (checkout with_props [] 1) (drive false Update with_props ([] ∷ at d ∷ []) (checkout with_props [] 1) 2))
    ≡ ([], whole 2 []) ∷ (at d, DirNode 2 (at d) true ((b, 57 ∷ []) ∷ (c, 51 ∷ []) ∷ (d, 52 ∷ []) ∷ [])) ∷ []
props_after = refl

-- a file that the copy was made to forget
abbrev pub one_file : History
one_file = history_of (0 ∷ 1 ∷ []) (dir 0 [] ∷ dir 0 ((d, 2) ∷ []) ∷ dir 1 ((x, 3) ∷ []) ∷ file 2 abc ∷ [])

abbrev pub without_x : WorkingCopy
without_x = forgotten (checkout one_file [] 1) (at2 d x)

abbrev pub one_paths : List Path
one_paths = [] ∷ at d ∷ at2 d x ∷ []

forgotten_report : (crawl (listed one_paths without_x)).entries ≡ ([], SetPath 1 false) ∷ (at2 d x, DeletePath) ∷ []
forgotten_report = refl

forgotten_drive : drive false Update one_file one_paths without_x 1
    ≡ SetTargetRevision 1 ∷ OpenRoot 1 0 ∷ OpenDirectory (at d) 0 1 1 ∷ AddFile (at2 d x) 1 2 ∷ ApplyText 2 None abc
    ∷ CloseFile 2 (Some abc) ∷ CloseDirectory 1
    ∷ CloseDirectory 0 ∷ CloseEdit ∷ []
forgotten_drive = refl

forgotten_after : listed one_paths (after Update without_x (drive false Update one_file one_paths without_x 1))
    ≡ ([], whole 1 []) ∷ (at d, whole 1 (at d)) ∷ (at2 d x, plain 1 (at2 d x) abc) ∷ []
forgotten_after = refl

-- a file replaced by a directory of its name
abbrev replaced : History
replaced = history_of (0 ∷ 1 ∷ 3 ∷ []) (dir 0 [] ∷ dir 0 ((f, 2) ∷ []) ∷ file 1 a ∷ dir 0 ((f, 4) ∷ []) ∷ dir 2 [] ∷ [])

replaced_drive : drive false Update replaced k_paths (checkout replaced [] 1) 2
    ≡ SetTargetRevision 2 ∷ OpenRoot 1 0 ∷ DeleteEntry (at f) 1 0 ∷ AddDirectory (at f) 0 1 ∷ CloseDirectory 1 ∷ CloseDirectory 0
    ∷ CloseEdit ∷ []
replaced_drive = refl

replaced_after : listed k_paths (after Update (checkout replaced [] 1) (drive false Update replaced k_paths (checkout replaced [] 1) 2))
    ≡ ([], whole 2 [])
    ∷ (at f, whole 2 (at f)) ∷ []
replaced_after = refl

-- nothing to do, after the update of the first file
again_drive : drive false Update k k_paths (after Update k_copy k_calls) 2 ≡ SetTargetRevision 2 ∷ OpenRoot 2 0 ∷ CloseDirectory 0
    ∷ CloseEdit ∷ []
again_drive = refl

-- a directory removed and copied back in one commit, with a changed file: of its own line, so kept
abbrev copied : History
copied =
    history_of (0 ∷ 1 ∷ 4 ∷ [])
    (dir 0 [] ∷ dir 0 ((d, 2) ∷ []) ∷ dir 1 ((x, 3) ∷ []) ∷ file 2 a ∷ dir 0 ((d, 5) ∷ []) ∷ dir 1 ((x, 6) ∷ []) ∷ file 2 abc ∷ [])

copied_drive : drive false Update copied one_paths (checkout copied [] 1) 2
    ≡ SetTargetRevision 2 ∷ OpenRoot 1 0 ∷ OpenDirectory (at d) 0 1 1 ∷ OpenFile (at2 d x) 1 1 2 ∷ ApplyText 2 (Some a) abc
    ∷ CloseFile 2 (Some abc) ∷ CloseDirectory 1
    ∷ CloseDirectory 0 ∷ CloseEdit ∷ []
copied_drive = refl

copied_after : listed one_paths (after Update (checkout copied [] 1) (drive false Update copied one_paths (checkout copied [] 1) 2))
    ≡ ([], whole 2 []) ∷ (at d, whole 2 (at d)) ∷ (at2 d x, plain 2 (at2 d x) abc) ∷ []
copied_after = refl

-- an empty file added: its text is sent
abbrev pub empty : History
empty = history_of (0 ∷ 1 ∷ []) (dir 0 [] ∷ dir 0 ((f, 2) ∷ []) ∷ file 1 [] ∷ [])

abbrev pub empty_added : List Call
empty_added =
    SetTargetRevision 1 ∷ OpenRoot 0 0 ∷ AddFile (at f) 0 1 ∷ ApplyText 1 None [] ∷ CloseFile 1 (Some []) ∷ CloseDirectory 0 ∷ CloseEdit
    ∷ []

empty_drive : drive false Update empty k_paths (checkout empty [] 0) 1 ≡ empty_added
empty_drive = refl

empty_after : listed k_paths (after Update (checkout empty [] 0) empty_added) ≡ ([], whole 1 []) ∷ (at f, plain 1 (at f) []) ∷ []
empty_after = refl
