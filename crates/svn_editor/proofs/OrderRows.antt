-- Calls that are out of order, computed by the definition: each list begins with the two calls of `begun`, unless it says otherwise.
use Rattle.std.specs.Prelude.{◌≡◌, List, [], ◌∷◌, ◌++◌, Option, Some, None, refl}
use Rattle.svn_types.specs.Names.{Path}
use Rattle.svn_editor.specs.declared.call.Call.{Call}
use Rattle.svn_editor.specs.declared.call.Call.TheVariants.{SetTargetRevision, OpenRoot, DeleteEntry, AddDirectory, ChangeDirProp}
use Rattle.svn_editor.specs.declared.call.Call.TheVariants.{CloseDirectory, AddFile, OpenFile, ChangeFileProp, ApplyText, CloseFile}
use Rattle.svn_editor.specs.declared.call.Call.TheVariants.{CloseEdit, AbortEdit}
use Rattle.svn_editor.specs.declared.fault.OrderFault.{OrderFault}
use Rattle.svn_editor.specs.declared.fault.OrderFault.TheVariants.{TargetFirst, UnknownToken, ClosedToken, EntryAgain, DeleteLate}
use Rattle.svn_editor.specs.declared.fault.OrderFault.TheVariants.{NotInnermost, OpenBelow, PropLate, FileOpen, TextAgain, RootNotClosed}
use Rattle.svn_editor.specs.declared.fault.OrderFault.TheVariants.{Ended, TokenOrder, WrongPath, TooEarly}
use Rattle.svn_editor.specs.Order.{order_fault}

-- paths of one letter, and of two
abbrev a : Path
a = (97 ∷ []) ∷ []

abbrev b : Path
b = (98 ∷ []) ∷ []

abbrev f : Path
f = (102 ∷ []) ∷ []

abbrev g : Path
g = (103 ∷ []) ∷ []

abbrev a_f : Path
a_f = (97 ∷ []) ∷ (102 ∷ []) ∷ []

abbrev begun : List Call
begun = SetTargetRevision 1 ∷ OpenRoot 0 0 ∷ []

abbrev fault : List Call → Call → Option OrderFault
fault calls c = order_fault (begun ++ calls) c

closed_parent : fault (AddDirectory a 0 1 ∷ CloseDirectory 1 ∷ []) (AddFile a_f 1 2) ≡ Some ClosedToken
closed_parent = refl

not_innermost : fault (AddDirectory a 0 1 ∷ []) (AddDirectory b 0 2) ≡ Some NotInnermost
not_innermost = refl

-- a file may be in any open directory
file_elsewhere : fault (AddDirectory a 0 1 ∷ []) (AddFile f 0 2) ≡ None
file_elsewhere = refl

root_open : fault [] CloseEdit ≡ Some RootNotClosed
root_open = refl

aborted_at_once : order_fault [] AbortEdit ≡ None
aborted_at_once = refl

ended : fault (CloseDirectory 0 ∷ CloseEdit ∷ []) CloseEdit ≡ Some Ended
ended = refl

target_first : order_fault [] (OpenRoot 0 0) ≡ Some TargetFirst
target_first = refl

target_again : fault [] (SetTargetRevision 1) ≡ Some TargetFirst
target_again = refl

unknown_token : fault [] (DeleteEntry f 0 1) ≡ Some UnknownToken
unknown_token = refl

token_order : fault [] (AddFile f 0 2) ≡ Some TokenOrder
token_order = refl

wrong_path : fault [] (AddFile a_f 0 1) ≡ Some WrongPath
wrong_path = refl

open_below : fault (AddDirectory a 0 1 ∷ []) (CloseDirectory 0) ≡ Some OpenBelow
open_below = refl

prop_late : fault (AddDirectory a 0 1 ∷ []) (ChangeDirProp 0 (97 ∷ []) None) ≡ Some PropLate
prop_late = refl

-- no subdirectory after a property change that came after one
subdirectory_late : fault (AddDirectory a 0 1 ∷ CloseDirectory 1 ∷ ChangeDirProp 0 (97 ∷ []) None ∷ []) (AddDirectory b 0 2) ≡ Some PropLate
subdirectory_late = refl

delete_late : fault (AddFile f 0 1 ∷ CloseFile 1 None ∷ []) (DeleteEntry f 0 0) ≡ Some DeleteLate
delete_late = refl

delete_again : fault (DeleteEntry f 0 0 ∷ []) (DeleteEntry f 0 0) ≡ Some EntryAgain
delete_again = refl

-- a deleted entry may be added, and not opened
added_after_delete : fault (DeleteEntry f 0 0 ∷ []) (AddFile f 0 1) ≡ None
added_after_delete = refl

opened_after_delete : fault (DeleteEntry f 0 0 ∷ []) (OpenFile f 0 0 1) ≡ Some EntryAgain
opened_after_delete = refl

text_again : fault (AddFile f 0 1 ∷ ApplyText 1 None [] ∷ []) (ApplyText 1 None []) ≡ Some TextAgain
text_again = refl

-- files that stay open
text_unfinished : fault (AddFile f 0 1 ∷ ApplyText 1 None [] ∷ []) (CloseDirectory 0) ≡ Some FileOpen
text_unfinished = refl

postponed_prop : fault (AddFile f 0 1 ∷ AddFile g 0 2 ∷ []) (ChangeFileProp 1 (97 ∷ []) None) ≡ Some PropLate
postponed_prop = refl

postponed_close : fault (AddFile f 0 1 ∷ AddFile g 0 2 ∷ []) (CloseFile 1 None) ≡ Some TooEarly
postponed_close = refl

file_open_at_end : fault (AddFile f 0 1 ∷ CloseDirectory 0 ∷ []) CloseEdit ≡ Some RootNotClosed
file_open_at_end = refl

any_order :
    fault (AddFile f 0 1 ∷ AddFile g 0 2 ∷ CloseDirectory 0 ∷ ApplyText 2 None [] ∷ ApplyText 1 None [] ∷ CloseFile 2 None
    ∷ CloseFile 1 None ∷ []) CloseEdit ≡ None
any_order = refl
