-- Updates of copies with switched directories and files.
use Rattle.std.specs.Prelude.{◌≡◌, false, List, [], ◌∷◌, ◌++◌, Some, None, refl}
use Rattle.svn_types.specs.Names.{Path}
use Rattle.svn_repo.specs.History.{History, NodeRow}
use Rattle.svn_report.specs.declared.entry.ReportEntry.TheVariants.{SetPath, LinkPath}
use Rattle.svn_editor.specs.declared.mode.Mode.TheVariants.{Update}
use Rattle.svn_editor.specs.declared.call.Call.{Call}
use Rattle.svn_editor.specs.declared.call.Call.TheVariants.{SetTargetRevision, OpenRoot, DeleteEntry, AddDirectory, OpenDirectory}
use Rattle.svn_editor.specs.declared.call.Call.TheVariants.{CloseDirectory, AddFile, OpenFile, ApplyText, CloseFile, CloseEdit}
use Rattle.svn_model.specs.declared.base_node.BaseNode.TheVariants.{NotPresent}
use Rattle.svn_model.specs.Nodes.{WorkingCopy, listed}
use Rattle.svn_model.specs.Crawl.{crawl}
use Rattle.svn_model.specs.Builders.{checkout, placed, forgotten}
use Rattle.svn_model.specs.Effects.{after}
use Rattle.law_update.proofs.Rows.Setting.{history_of, a, b, d, f, g, s, x, y, abc, at, at2, dir, file, drive, refused, whole, plain}
use Rattle.law_update.proofs.Rows.Plain.{k, k_copy}

-- two directories with a file each
abbrev pub two_rows : List NodeRow
two_rows = dir 0 [] ∷ dir 0 ((a, 2) ∷ (b, 4) ∷ []) ∷ dir 1 ((x, 3) ∷ []) ∷ file 2 a ∷ dir 3 ((y, 5) ∷ []) ∷ file 4 a ∷ []

-- both files change
abbrev pub two : History
two =
    history_of (0 ∷ 1 ∷ 6 ∷ [])
    (two_rows ++ (dir 0 ((a, 7) ∷ (b, 9) ∷ []) ∷ dir 1 ((x, 8) ∷ []) ∷ file 2 abc ∷ dir 3 ((y, 10) ∷ []) ∷ file 4 abc ∷ []))

abbrev pub two_paths : List Path
two_paths = [] ∷ at a ∷ at2 a x ∷ at2 a y ∷ at b ∷ at2 b y ∷ []

-- the first directory switched to the second
abbrev pub a_at_b : WorkingCopy
a_at_b = placed two (checkout two [] 1) (at a) (at b) 1

a_at_b_report : (crawl (listed two_paths a_at_b)).entries ≡ ([], SetPath 1 false) ∷ (at a, LinkPath (at b) 1 false) ∷ []
a_at_b_report = refl

abbrev pub a_at_b_calls : List Call
a_at_b_calls =
    SetTargetRevision 2 ∷ OpenRoot 1 0 ∷ OpenDirectory (at a) 0 1 1 ∷ OpenFile (at2 a y) 1 1 2 ∷ ApplyText 2 (Some a) abc
    ∷ CloseFile 2 (Some abc) ∷ CloseDirectory 1
    ∷ OpenDirectory (at b) 0 1 3 ∷ OpenFile (at2 b y) 3 1 4 ∷ ApplyText 4 (Some a) abc ∷ CloseFile 4 (Some abc) ∷ CloseDirectory 3
    ∷ CloseDirectory 0 ∷ CloseEdit ∷ []

a_at_b_drive : drive false Update two two_paths a_at_b 2 ≡ a_at_b_calls
a_at_b_drive = refl

a_at_b_accepted : refused Update two_paths a_at_b a_at_b_calls ≡ []
a_at_b_accepted = refl

a_at_b_after : listed two_paths (after Update a_at_b a_at_b_calls)
    ≡ ([], whole 2 []) ∷ (at a, whole 2 (at b)) ∷ (at2 a y, plain 2 (at2 b y) abc) ∷ (at b, whole 2 (at b))
    ∷ (at2 b y, plain 2 (at2 b y) abc) ∷ []
a_at_b_after = refl

-- the directory that was switched to is gone, so the switch lapses
abbrev pub without_b : History
without_b = history_of (0 ∷ 1 ∷ 6 ∷ []) (two_rows ++ (dir 0 ((a, 2) ∷ []) ∷ []))

abbrev pub lapsed_calls : List Call
lapsed_calls =
    SetTargetRevision 2 ∷ OpenRoot 1 0 ∷ DeleteEntry (at a) 1 0 ∷ AddDirectory (at a) 0 1 ∷ AddFile (at2 a x) 1 2 ∷ ApplyText 2 None a
    ∷ CloseFile 2 (Some a)
    ∷ CloseDirectory 1 ∷ DeleteEntry (at b) 1 0 ∷ CloseDirectory 0 ∷ CloseEdit ∷ []

lapsed_drive : drive false Update without_b two_paths a_at_b 2 ≡ lapsed_calls
lapsed_drive = refl

lapsed_accepted : refused Update two_paths a_at_b lapsed_calls ≡ []
lapsed_accepted = refl

lapsed_after : listed two_paths (after Update a_at_b lapsed_calls) ≡ ([], whole 2 []) ∷ (at a, whole 2 (at a))
    ∷ (at2 a x, plain 2 (at2 a x) a) ∷ []
lapsed_after = refl

-- a switch below a directory that is replaced
abbrev pub renewed : History
renewed =
    history_of (0 ∷ 1 ∷ 6 ∷ []) (dir 0 [] ∷ dir 0 ((b, 2) ∷ (d, 4) ∷ []) ∷ dir 1 ((y, 3) ∷ []) ∷ file 2 a ∷ dir 3 ((s, 5) ∷ []) ∷ dir 4 []
    ∷ dir 0 ((b, 2) ∷ (d, 7) ∷ []) ∷ dir 5 ((s, 8) ∷ []) ∷ dir 6 [] ∷ [])

abbrev pub renewed_paths : List Path
renewed_paths = [] ∷ at b ∷ at2 b y ∷ at d ∷ at2 d s ∷ (d ∷ s ∷ y ∷ []) ∷ []

abbrev pub s_at_b : WorkingCopy
s_at_b = placed renewed (checkout renewed [] 1) (at2 d s) (at b) 1

abbrev pub renewed_calls : List Call
renewed_calls =
    SetTargetRevision 2 ∷ OpenRoot 1 0 ∷ DeleteEntry (at d) 1 0 ∷ AddDirectory (at d) 0 1 ∷ AddDirectory (at2 d s) 1 2 ∷ CloseDirectory 2
    ∷ CloseDirectory 1
    ∷ CloseDirectory 0 ∷ CloseEdit ∷ []

renewed_drive : drive false Update renewed renewed_paths s_at_b 2 ≡ renewed_calls
renewed_drive = refl

renewed_after : listed renewed_paths (after Update s_at_b renewed_calls)
    ≡ ([], whole 2 []) ∷ (at b, whole 2 (at b)) ∷ (at2 b y, plain 2 (at2 b y) a) ∷ (at d, whole 2 (at d)) ∷ (at2 d s, whole 2 (at2 d s))
    ∷ []
renewed_after = refl

-- a directory switched to the root
abbrev pub outer : History
outer =
    history_of (0 ∷ 1 ∷ 4 ∷ [])
    (dir 0 [] ∷ dir 0 ((a, 2) ∷ (f, 3) ∷ []) ∷ dir 1 [] ∷ file 2 a ∷ dir 0 ((a, 2) ∷ (f, 5) ∷ []) ∷ file 2 abc ∷ [])

abbrev pub outer_paths : List Path
outer_paths = [] ∷ at a ∷ at2 a a ∷ at2 a f ∷ at f ∷ []

abbrev pub a_at_root : WorkingCopy
a_at_root = placed outer (checkout outer [] 1) (at a) [] 1

abbrev outer_calls : List Call
outer_calls =
    SetTargetRevision 2 ∷ OpenRoot 1 0 ∷ OpenDirectory (at a) 0 1 1 ∷ OpenFile (at2 a f) 1 1 2 ∷ ApplyText 2 (Some a) abc
    ∷ CloseFile 2 (Some abc) ∷ CloseDirectory 1
    ∷ OpenFile (at f) 0 1 3 ∷ ApplyText 3 (Some a) abc ∷ CloseFile 3 (Some abc) ∷ CloseDirectory 0 ∷ CloseEdit ∷ []

outer_drive : drive false Update outer outer_paths a_at_root 2 ≡ outer_calls
outer_drive = refl

outer_after : listed outer_paths (after Update a_at_root outer_calls)
    ≡ ([], whole 2 []) ∷ (at a, whole 2 []) ∷ (at2 a a, whole 2 (at a)) ∷ (at2 a f, plain 2 (at f) abc) ∷ (at f, plain 2 (at f) abc) ∷ []
outer_after = refl

-- a file switched to a newer one of its line: kept, and not touched
abbrev pub g_at_f : WorkingCopy
g_at_f = placed k k_copy (at g) (at f) 2

g_at_f_report : (crawl (listed ([] ∷ at f ∷ at g ∷ []) g_at_f)).entries ≡ ([], SetPath 1 false) ∷ (at g, LinkPath (at f) 2 false) ∷ []
g_at_f_report = refl

g_at_f_drive : drive false Update k ([] ∷ at f ∷ at g ∷ []) g_at_f 2
    ≡ SetTargetRevision 2 ∷ OpenRoot 1 0 ∷ OpenFile (at f) 0 1 1 ∷ ApplyText 1 (Some a) abc ∷ CloseFile 1 (Some abc) ∷ CloseDirectory 0
    ∷ CloseEdit ∷ []
g_at_f_drive = refl

g_at_f_after : listed ([] ∷ at f ∷ at g ∷ []) (after Update g_at_f (drive false Update k ([] ∷ at f ∷ at g ∷ []) g_at_f 2))
    ≡ ([], whole 2 []) ∷ (at f, plain 2 (at f) abc) ∷ (at g, plain 2 (at f) abc) ∷ []
g_at_f_after = refl

-- what isn't present, and isn't in the target either, is gone after the last call
abbrev g_forgotten : WorkingCopy
g_forgotten = forgotten g_at_f (at g)

g_forgotten_nodes : listed ([] ∷ at f ∷ at g ∷ []) g_forgotten ≡ ([], whole 1 []) ∷ (at f, plain 1 (at f) a) ∷ (at g, NotPresent) ∷ []
g_forgotten_nodes = refl

g_forgotten_after : listed ([] ∷ at f ∷ at g ∷ []) (after Update g_forgotten (drive false Update k ([] ∷ at f ∷ at g ∷ []) g_forgotten 2))
    ≡ ([], whole 2 [])
    ∷ (at f, plain 2 (at f) abc) ∷ []
g_forgotten_after = refl
