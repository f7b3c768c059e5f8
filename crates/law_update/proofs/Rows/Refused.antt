-- Calls that a copy refuses, calls whose later ones count, and the calls of an update with one left out or given twice.
use Rattle.std.specs.Prelude.{◌≡◌, ℕ, List, [], ◌∷◌, ◌++◌, Option, Some, None, refl}
use Rattle.svn_editor.specs.declared.call.Call.{Call}
use Rattle.svn_editor.specs.declared.call.Call.TheVariants.{SetTargetRevision, OpenRoot, DeleteEntry, OpenDirectory, AddFile, OpenFile}
use Rattle.svn_editor.specs.declared.call.Call.TheVariants.{ChangeFileProp, ApplyText, CloseFile, CloseDirectory, CloseEdit}
use Rattle.svn_editor.specs.declared.fault.EditFault.{EditFault}
use Rattle.svn_editor.specs.declared.fault.EditFault.TheVariants.{NoEntry, WrongKind, WrongRevision, BaseChecksum, TextChecksum}
use Rattle.svn_editor.specs.declared.fault.EditFault.TheVariants.{EntryExists, TooDeep}
use Rattle.svn_editor.specs.declared.mode.Mode.{Mode}
use Rattle.svn_editor.specs.declared.mode.Mode.TheVariants.{Update, SwitchTo}
use Rattle.svn_model.specs.declared.base_node.BaseNode.TheVariants.{File as FileNode}
use Rattle.svn_model.specs.Nodes.{WorkingCopy, get_in, listed}
use Rattle.svn_model.specs.Effects.{after, refusal}
use Rattle.law_update.proofs.Rows.Setting.{a, f, g, deep, abc, at, sum, stopped, whole, partial, plain, refused}
use Rattle.law_update.proofs.Rows.Plain.{k_copy, k_paths, k_calls}
use Rattle.svn_editor.specs.declared.fault.OrderFault.{OrderFault}
use Rattle.svn_editor.specs.declared.fault.OrderFault.TheVariants.{TargetFirst, UnknownToken, ClosedToken, FileOpen, TextAgain}
use Rattle.svn_editor.specs.declared.fault.OrderFault.TheVariants.{RootNotClosed, Ended, TokenOrder}
use Rattle.svn_editor.specs.Order.{order_fault}

abbrev begun : List Call
begun = SetTargetRevision 2 ∷ OpenRoot 1 0 ∷ []

-- the refusal of the call on the copy, after these calls
abbrev answer_in : Mode → WorkingCopy → List Call → Call → Option EditFault
answer_in mode w calls c = refusal sum mode calls c (listed ([] ∷ at f ∷ at g ∷ []) (after mode w calls))

abbrev answer : WorkingCopy → List Call → Call → Option EditFault
answer = answer_in Update

nothing_to_delete : answer k_copy begun (DeleteEntry (at g) 1 0) ≡ Some NoEntry
nothing_to_delete = refl

file_as_directory : answer k_copy begun (OpenDirectory (at f) 0 1 1) ≡ Some WrongKind
file_as_directory = refl

other_revision : answer k_copy begun (OpenFile (at f) 0 2 1) ≡ Some WrongRevision
other_revision = refl

already_there : answer k_copy begun (AddFile (at f) 0 1) ≡ Some EntryExists
already_there = refl

other_root : answer k_copy (SetTargetRevision 2 ∷ []) (OpenRoot 2 0) ≡ Some WrongRevision
other_root = refl

-- the checksum of the examples is the text itself
wrong_result : answer k_copy (begun ++ AddFile (at g) 0 1 ∷ []) (CloseFile 1 (Some a)) ≡ Some TextChecksum
wrong_result = refl

wrong_base : answer k_copy (begun ++ OpenFile (at f) 0 1 1 ∷ []) (ApplyText 1 (Some abc) abc) ≡ Some BaseChecksum
wrong_base = refl

wrong_close : answer k_copy (begun ++ OpenFile (at f) 0 1 1 ∷ []) (CloseFile 1 (Some abc)) ≡ Some TextChecksum
wrong_close = refl

-- a repository path has at most 64 names
abbrev at_depth : ℕ → WorkingCopy
at_depth n = get_in (([], whole 1 (deep n)) ∷ [])

deepest_added : answer (at_depth 63) begun (AddFile (at g) 0 1) ≡ None
deepest_added = refl

too_deep_added : answer (at_depth 64) begun (AddFile (at g) 0 1) ≡ Some TooDeep
too_deep_added = refl

deepest_switched : answer_in (SwitchTo (deep 63)) k_copy begun (OpenFile (at f) 0 1 1) ≡ None
deepest_switched = refl

too_deep_switched : answer_in (SwitchTo (deep 64)) k_copy begun (OpenFile (at f) 0 1 1) ≡ Some TooDeep
too_deep_switched = refl

-- the last call of a switch looks at each present node
deepest_settled : answer_in (SwitchTo (deep 63)) k_copy (begun ++ CloseDirectory 0 ∷ []) CloseEdit ≡ None
deepest_settled = refl

too_deep_settled : answer_in (SwitchTo (deep 64)) k_copy (begun ++ CloseDirectory 0 ∷ []) CloseEdit ≡ Some TooDeep
too_deep_settled = refl

-- of two changes of one property the later holds, and a file without a text is empty
abbrev twice : List Call
twice =
    begun ++ AddFile (at g) 0 1 ∷ ChangeFileProp 1 (112 ∷ []) (Some (49 ∷ [])) ∷ ChangeFileProp 1 (112 ∷ []) (Some (50 ∷ []))
    ∷ CloseFile 1 None ∷ []

later_holds : after Update k_copy twice (at g) ≡ Some (FileNode 2 (at g) [] ((112 ∷ [], 50 ∷ []) ∷ []))
later_holds = refl

-- a copy whose file isn't the repository's
abbrev untrue : WorkingCopy
untrue = get_in (([], whole 1 []) ∷ (at f, plain 1 (at f) abc) ∷ [])

untrue_base : answer untrue (begun ++ OpenFile (at f) 0 1 1 ∷ []) (ApplyText 1 (Some a) abc) ≡ Some BaseChecksum
untrue_base = refl

untrue_left : listed k_paths (stopped Update untrue 3 k_calls) ≡ ([], partial 2 []) ∷ (at f, plain 1 (at f) abc) ∷ []
untrue_left = refl

-- ---- out of order

-- the seven calls of an update with one left out: the first that is refused
without_target : order_fault [] (OpenRoot 1 0) ≡ Some TargetFirst
without_target = refl

without_root : order_fault (SetTargetRevision 2 ∷ []) (OpenFile (at f) 0 1 1) ≡ Some UnknownToken
without_root = refl

without_open : order_fault (SetTargetRevision 2 ∷ OpenRoot 1 0 ∷ []) (ApplyText 1 (Some a) abc) ≡ Some UnknownToken
without_open = refl

without_text : refused Update k_paths k_copy (SetTargetRevision 2 ∷ OpenRoot 1 0 ∷ OpenFile (at f) 0 1 1 ∷ CloseFile 1 (Some abc) ∷ [])
    ≡ (CloseFile 1 (Some abc), TextChecksum) ∷ []
without_text = refl

without_close : order_fault (SetTargetRevision 2 ∷ OpenRoot 1 0 ∷ OpenFile (at f) 0 1 1 ∷ ApplyText 1 (Some a) abc ∷ []) (CloseDirectory 0)
    ≡ Some FileOpen
without_close = refl

without_root_close : order_fault
    (SetTargetRevision 2 ∷ OpenRoot 1 0 ∷ OpenFile (at f) 0 1 1 ∷ ApplyText 1 (Some a) abc ∷ CloseFile 1 (Some abc) ∷ []) CloseEdit
    ≡ Some RootNotClosed
without_root_close = refl

-- the seven calls with one given twice: why the second is refused
abbrev second_faults : List Call → List Call → List (Option OrderFault)
second_faults earlier [] = []
second_faults earlier (c ∷ calls) = order_fault (earlier ++ c ∷ []) c ∷ second_faults (earlier ++ c ∷ []) calls

given_twice : second_faults [] k_calls ≡ Some TargetFirst ∷ Some TokenOrder ∷ Some TokenOrder ∷ Some TextAgain ∷ Some ClosedToken
    ∷ Some ClosedToken ∷ Some Ended ∷ []
given_twice = refl
