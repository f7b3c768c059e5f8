-- Switches of the whole copy.
use Rattle.std.specs.Prelude.{◌≡◌, true, false, List, [], ◌∷◌, Some, None, refl}
use Rattle.svn_types.specs.Names.{Path}
use Rattle.svn_repo.specs.History.{History}
use Rattle.svn_report.specs.declared.entry.ReportEntry.TheVariants.{SetPath, LinkPath}
use Rattle.svn_report.specs.Reports.{ReportView}
use Rattle.svn_editor.specs.declared.mode.Mode.{Mode}
use Rattle.svn_editor.specs.declared.mode.Mode.TheVariants.{Update, SwitchTo}
use Rattle.svn_editor.specs.declared.call.Call.{Call}
use Rattle.svn_editor.specs.declared.call.Call.TheVariants.{SetTargetRevision, OpenRoot, DeleteEntry, AddDirectory, CloseDirectory}
use Rattle.svn_editor.specs.declared.call.Call.TheVariants.{AddFile, OpenFile, ApplyText, CloseFile, CloseEdit}
use Rattle.svn_model.specs.Nodes.{WorkingCopy, listed}
use Rattle.svn_model.specs.Crawl.{crawl}
use Rattle.svn_model.specs.Builders.{checkout, placed}
use Rattle.svn_model.specs.Effects.{after}
use Rattle.law_update.proofs.Rows.Setting.{history_of, a, b, d, e, f, t, x, abc, at, at2, dir, file, drive, refused, stopped, whole, partial}
use Rattle.law_update.proofs.Rows.Setting.{plain}

-- r1 has t with t/d/x and t/f, and e; r2 has b, a copy of t; in r3 b/f has changed
abbrev pub branched : History
branched =
    history_of (0 ∷ 1 ∷ 7 ∷ 8 ∷ [])
    (dir 0 [] ∷ dir 0 ((e, 2) ∷ (t, 3) ∷ []) ∷ dir 1 [] ∷ dir 2 ((d, 4) ∷ (f, 6) ∷ []) ∷ dir 3 ((x, 5) ∷ []) ∷ file 4 a ∷ file 5 a
    ∷ dir 0 ((b, 3) ∷ (e, 2) ∷ (t, 3) ∷ []) ∷ dir 0 ((b, 9) ∷ (e, 2) ∷ (t, 3) ∷ []) ∷ dir 2 ((d, 4) ∷ (f, 10) ∷ []) ∷ file 5 abc ∷ [])

abbrev pub paths : List Path
paths = [] ∷ at d ∷ at2 d x ∷ at f ∷ []

abbrev pub trunk : WorkingCopy
trunk = checkout branched (at t) 1

abbrev to_b : Mode
to_b = SwitchTo (at b)

trunk_nodes : listed paths trunk ≡ ([], whole 1 (at t)) ∷ (at d, whole 1 (at2 t d)) ∷ (at2 d x, plain 1 (t ∷ d ∷ x ∷ []) a)
    ∷ (at f, plain 1 (at2 t f) a) ∷ []
trunk_nodes = refl

abbrev switch_calls : List Call
switch_calls =
    SetTargetRevision 3 ∷ OpenRoot 1 0 ∷ OpenFile (at f) 0 1 1 ∷ ApplyText 1 (Some a) abc ∷ CloseFile 1 (Some abc) ∷ CloseDirectory 0
    ∷ CloseEdit ∷ []

switch_drive : drive false to_b branched paths trunk 3 ≡ switch_calls
switch_drive = refl

switch_accepted : refused to_b paths trunk switch_calls ≡ []
switch_accepted = refl

switch_after : listed paths (after to_b trunk switch_calls)
    ≡ ([], whole 3 (at b)) ∷ (at d, whole 3 (at2 b d)) ∷ (at2 d x, plain 3 (b ∷ d ∷ x ∷ []) a) ∷ (at f, plain 3 (at2 b f) abc) ∷ []
switch_after = refl

-- stopped after three calls
abbrev half_way : WorkingCopy
half_way = stopped to_b trunk 3 switch_calls

half_way_nodes : listed paths half_way
    ≡ ([], partial 3 (at b)) ∷ (at d, whole 1 (at2 t d)) ∷ (at2 d x, plain 1 (t ∷ d ∷ x ∷ []) a) ∷ (at f, plain 1 (at2 t f) a) ∷ []
half_way_nodes = refl

abbrev half_way_report : ReportView
half_way_report = crawl (listed paths half_way)

half_way_root : half_way_report.root ≡ at b
half_way_root = refl

half_way_entries : half_way_report.entries ≡ ([], SetPath 3 true) ∷ (at d, LinkPath (at2 t d) 1 false) ∷ (at f, LinkPath (at2 t f) 1 false)
    ∷ []
half_way_entries = refl

switched_on : listed paths (after to_b half_way (drive false to_b branched paths half_way 3)) ≡ listed paths (after to_b trunk switch_calls)
switched_on = refl

updated_instead : drive false Update branched paths half_way 3 ≡ SetTargetRevision 3 ∷ OpenRoot 3 0 ∷ CloseDirectory 0 ∷ CloseEdit ∷ []
updated_instead = refl

updated_after : listed paths (after Update half_way (drive false Update branched paths half_way 3))
    ≡ ([], whole 3 (at b)) ∷ (at d, whole 3 (at2 t d)) ∷ (at2 d x, plain 3 (t ∷ d ∷ x ∷ []) a) ∷ (at f, plain 3 (at2 t f) a) ∷ []
updated_after = refl

-- a switched directory is none in a switch of the whole copy
abbrev pub d_at_e : WorkingCopy
d_at_e = placed branched trunk (at d) (at e) 1

unlinked_drive : drive false to_b branched paths d_at_e 3
    ≡ SetTargetRevision 3 ∷ OpenRoot 1 0 ∷ DeleteEntry (at d) 1 0 ∷ AddDirectory (at d) 0 1 ∷ AddFile (at2 d x) 1 2 ∷ ApplyText 2 None a
    ∷ CloseFile 2 (Some a) ∷ CloseDirectory 1
    ∷ OpenFile (at f) 0 1 3 ∷ ApplyText 3 (Some a) abc ∷ CloseFile 3 (Some abc) ∷ CloseDirectory 0 ∷ CloseEdit ∷ []
unlinked_drive = refl

unlinked_after : listed paths (after to_b d_at_e (drive false to_b branched paths d_at_e 3)) ≡ listed paths (after to_b trunk switch_calls)
unlinked_after = refl
