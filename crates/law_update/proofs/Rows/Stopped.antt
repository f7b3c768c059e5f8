-- Runs that were stopped, and the drives that resume them.
use Rattle.std.specs.Prelude.{◌≡◌, ℕ, true, false, List, [], ◌∷◌, map, Some, None, refl}
use Rattle.svn_report.specs.declared.entry.ReportEntry.TheVariants.{SetPath, LinkPath}
use Rattle.svn_editor.specs.declared.mode.Mode.TheVariants.{Update}
use Rattle.svn_editor.specs.declared.call.Call.TheVariants.{SetTargetRevision, OpenRoot, DeleteEntry, AddDirectory, OpenDirectory}
use Rattle.svn_editor.specs.declared.call.Call.TheVariants.{CloseDirectory, AddFile, ApplyText, CloseFile, CloseEdit}
use Rattle.svn_model.specs.declared.base_node.BaseNode.TheVariants.{NotPresent}
use Rattle.svn_model.specs.Nodes.{WorkingCopy, listed}
use Rattle.svn_model.specs.Crawl.{crawl}
use Rattle.svn_model.specs.Builders.{checkout}
use Rattle.svn_model.specs.Effects.{after}
use Rattle.law_update.proofs.Rows.Setting.{a, b, d, f, s, x, y, at, at2, drive, stopped, whole, partial, plain}
use Rattle.law_update.proofs.Rows.Plain.{k, k_copy, k_calls, k_paths, empty, empty_added}
use Rattle.law_update.proofs.Rows.Switched.{two, two_paths, a_at_b, a_at_b_calls, without_b, lapsed_calls, renewed, renewed_paths, s_at_b}
use Rattle.law_update.proofs.Rows.Switched.{renewed_calls}

-- in a switched directory
abbrev two_stopped : WorkingCopy
two_stopped = stopped Update a_at_b 4 a_at_b_calls

two_nodes : listed two_paths two_stopped
    ≡ ([], partial 2 []) ∷ (at a, partial 2 (at b)) ∷ (at2 a y, plain 1 (at2 b y) a) ∷ (at b, whole 1 (at b))
    ∷ (at2 b y, plain 1 (at2 b y) a) ∷ []
two_nodes = refl

two_report : (crawl (listed two_paths two_stopped)).entries
    ≡ ([], SetPath 2 true) ∷ (at a, LinkPath (at b) 2 true) ∷ (at2 a y, SetPath 1 false) ∷ (at b, SetPath 1 false) ∷ []
two_report = refl

two_resumed : listed two_paths (after Update two_stopped (drive false Update two two_paths two_stopped 2))
    ≡ listed two_paths (after Update a_at_b a_at_b_calls)
two_resumed = refl

-- after a delete
abbrev lapsed_stopped : WorkingCopy
lapsed_stopped = stopped Update a_at_b 3 lapsed_calls

lapsed_nodes : listed two_paths lapsed_stopped ≡ ([], partial 2 []) ∷ (at b, whole 1 (at b)) ∷ (at2 b y, plain 1 (at2 b y) a) ∷ []
lapsed_nodes = refl

lapsed_report : (crawl (listed two_paths lapsed_stopped)).entries ≡ ([], SetPath 2 true) ∷ (at b, SetPath 1 false) ∷ []
lapsed_report = refl

lapsed_resumed : listed two_paths (after Update lapsed_stopped (drive false Update without_b two_paths lapsed_stopped 2))
    ≡ ([], whole 2 []) ∷ (at a, whole 2 (at a)) ∷ (at2 a x, plain 2 (at2 a x) a) ∷ []
lapsed_resumed = refl

-- after an add, and driven forth and back
abbrev renewed_stopped : WorkingCopy
renewed_stopped = stopped Update s_at_b 4 renewed_calls

renewed_nodes : listed renewed_paths renewed_stopped ≡ ([], partial 2 []) ∷ (at b, whole 1 (at b)) ∷ (at2 b y, plain 1 (at2 b y) a)
    ∷ (at d, partial 2 (at d)) ∷ []
renewed_nodes = refl

renewed_report : (crawl (listed renewed_paths renewed_stopped)).entries ≡ ([], SetPath 2 true) ∷ (at b, SetPath 1 false)
    ∷ (at d, SetPath 2 true) ∷ []
renewed_report = refl

renewed_forth : drive false Update renewed renewed_paths renewed_stopped 2
    ≡ SetTargetRevision 2 ∷ OpenRoot 2 0 ∷ OpenDirectory (at d) 0 2 1 ∷ AddDirectory (at2 d s) 1 2 ∷ CloseDirectory 2 ∷ CloseDirectory 1
    ∷ CloseDirectory 0 ∷ CloseEdit ∷ []
renewed_forth = refl

renewed_back : drive false Update renewed renewed_paths renewed_stopped 1
    ≡ SetTargetRevision 1 ∷ OpenRoot 2 0 ∷ DeleteEntry (at d) 2 0 ∷ AddDirectory (at d) 0 1 ∷ AddDirectory (at2 d s) 1 2 ∷ CloseDirectory 2
    ∷ CloseDirectory 1 ∷ CloseDirectory 0
    ∷ CloseEdit ∷ []
renewed_back = refl

-- after an added file, before its close
abbrev empty_stopped : WorkingCopy
empty_stopped = stopped Update (checkout empty [] 0) 3 empty_added

empty_nodes : listed k_paths empty_stopped ≡ ([], partial 1 []) ∷ (at f, NotPresent) ∷ []
empty_nodes = refl

empty_report : (crawl (listed k_paths empty_stopped)).entries ≡ ([], SetPath 1 true) ∷ []
empty_report = refl

empty_resumed : drive false Update empty k_paths empty_stopped 1
    ≡ SetTargetRevision 1 ∷ OpenRoot 1 0 ∷ AddFile (at f) 0 1 ∷ ApplyText 1 None [] ∷ CloseFile 1 (Some []) ∷ CloseDirectory 0 ∷ CloseEdit
    ∷ []
empty_resumed = refl

empty_resumed_after : listed k_paths (after Update empty_stopped (drive false Update empty k_paths empty_stopped 1)) ≡ ([], whole 1 [])
    ∷ (at f, plain 1 (at f) []) ∷ []
empty_resumed_after = refl

-- before the first call nothing is changed
not_begun : listed k_paths (stopped Update k_copy 0 k_calls) ≡ listed k_paths k_copy
not_begun = refl

-- and wherever the drive of a file's change is stopped, the copy is driven on to the same
abbrev stops : List ℕ
stops = 0 ∷ 1 ∷ 2 ∷ 3 ∷ 4 ∷ 5 ∷ 6 ∷ 7 ∷ []

driven_on : map
    (λ n. listed k_paths
    (after Update (stopped Update k_copy n k_calls) (drive false Update k k_paths (stopped Update k_copy n k_calls) 2))) stops
    ≡ map (λ n. listed k_paths (after Update k_copy k_calls)) stops
driven_on = refl
