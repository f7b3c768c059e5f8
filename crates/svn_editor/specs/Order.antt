-- Which calls keep a list of calls in order. What a call meets is said by the calls before it: each test is a sentence about places in
-- that list.
--     order_fault calls c      why the call is out of order after those, if it is
--     IsLawful calls      no call of the list is out of order
use Rattle.std.specs.Prelude.{◌≡◌, ℕ, Bool, true, false, ◌&&◌, ◌||◌, not, List, [], ◌∷◌, ◌++◌, length, nat_eq, Option, Some, None, is_some}
use Rattle.std.specs.Prelude.{if◌then◌else◌, Result, Ok, Err}
use Rattle.std.specs.List.{list_any}
use Rattle.svn_types.specs.declared.kind.Kind.{Kind}
use Rattle.svn_types.specs.Names.{Path}
use Rattle.svn_types.specs.Paths.{path_eq, parent, is_root}
use Rattle.svn_editor.specs.declared.call.Call.{Call}
use Rattle.svn_editor.specs.declared.call.Call.TheVariants.{SetTargetRevision, OpenRoot, DeleteEntry, AddDirectory, OpenDirectory}
use Rattle.svn_editor.specs.declared.call.Call.TheVariants.{ChangeDirProp, CloseDirectory, AddFile, OpenFile, ChangeFileProp, ApplyText}
use Rattle.svn_editor.specs.declared.call.Call.TheVariants.{CloseFile, CloseEdit, AbortEdit}
use Rattle.svn_editor.specs.declared.fault.OrderFault.{OrderFault}
use Rattle.svn_editor.specs.declared.fault.OrderFault.TheVariants.{TargetFirst, UnknownToken, ClosedToken, EntryAgain, DeleteLate}
use Rattle.svn_editor.specs.declared.fault.OrderFault.TheVariants.{NotInnermost, OpenBelow, PropLate, FileOpen, TextAgain, RootNotClosed}
use Rattle.svn_editor.specs.declared.fault.OrderFault.TheVariants.{Ended, TokenOrder, WrongPath, TooEarly, Memory}
use Rattle.svn_editor.specs.Calls.{Given, given_by, named_by, entry_of, number_eq, is_last, opens_entry, deletes, applies_text, all_given}
use Rattle.svn_editor.specs.Calls.{given, is_closed, path_of, is_of_kind, innermost, a_directory_is_open, a_file_is_open}
use Rattle.svn_editor.specs.Calls.{a_subdirectory_is_open, changed_late, current_file, is_current, has_its_text}

-- the first call isn't that of the target revision, or a later one is
abbrev pub is_target_late : List Call → Call → Bool
is_target_late [] (SetTargetRevision rev) = false
is_target_late [] _ = true
is_target_late (c ∷ calls) (SetTargetRevision rev) = true
is_target_late (c ∷ calls) _ = false

abbrev pub is_unknown : List Call → Option (ℕ × Kind) → Bool
is_unknown calls None = false
is_unknown calls (Some named) = not (is_of_kind named.1 (given calls named.0))

abbrev pub is_token_unknown : List Call → Call → Bool
is_token_unknown calls c = is_unknown calls (named_by c)

abbrev pub is_named_closed : List Call → Option (ℕ × Kind) → Bool
is_named_closed calls None = false
is_named_closed calls (Some named) = is_closed calls named.0

abbrev pub is_token_closed : List Call → Call → Bool
is_token_closed calls c = is_named_closed calls (named_by c)

abbrev pub is_misnumbered : List Call → Option Given → Bool
is_misnumbered calls None = false
is_misnumbered calls (Some g) = not (nat_eq g.token (length (all_given calls)))

-- a new token isn't the number of tokens given so far
abbrev pub is_token_misnumbered : List Call → Call → Bool
is_token_misnumbered calls c = is_misnumbered calls (given_by c)

abbrev pub is_outside : List Call → Option (ℕ × Kind) → Option Path → Bool
is_outside calls (Some named) (Some p) = is_root p || not (path_eq (parent p) (path_of calls named.0))
is_outside calls _ _ = false

-- the path isn't the parent's path joined with one name
abbrev pub is_path_wrong : List Call → Call → Bool
is_path_wrong calls c = is_outside calls (named_by c) (entry_of c)

-- a call on another file or on a directory
abbrev pub is_elsewhere : List Call → Call → Bool
is_elsewhere calls (ChangeFileProp token name value) = not (is_current calls token)
is_elsewhere calls (ApplyText token base_md5 text) = not (is_current calls token)
is_elsewhere calls (CloseFile token text_md5) = not (is_current calls token)
is_elsewhere calls CloseEdit = false
is_elsewhere calls AbortEdit = false
is_elsewhere calls _ = true

-- a call on another file or on a directory while the current file has its text
abbrev pub is_file_unfinished : List Call → Call → Bool
is_file_unfinished calls c = has_its_text calls (current_file calls) && is_elsewhere calls c

-- the text or the close of a postponed file while a directory is open
abbrev pub is_too_early : List Call → Call → Bool
is_too_early calls (ApplyText token base_md5 text) = not (is_current calls token) && a_directory_is_open calls
is_too_early calls (CloseFile token text_md5) = not (is_current calls token) && a_directory_is_open calls
is_too_early calls _ = false

-- the parent of an opened or added directory isn't the most recently opened directory that is still open
abbrev pub is_not_innermost : List Call → Call → Bool
is_not_innermost calls (AddDirectory path parent token) = not (number_eq (innermost calls) (Some parent))
is_not_innermost calls (OpenDirectory path parent base token) = not (number_eq (innermost calls) (Some parent))
is_not_innermost calls _ = false

-- a directory is closed while a directory in it is open
abbrev pub is_open_below : List Call → Call → Bool
is_open_below calls (CloseDirectory token) = a_subdirectory_is_open calls token
is_open_below calls _ = false

-- A property change while a subdirectory is open, or of a postponed file. After a change that came after a subdirectory, no other
-- subdirectory is opened.
abbrev pub is_prop_late : List Call → Call → Bool
is_prop_late calls (ChangeDirProp token name value) = a_subdirectory_is_open calls token
is_prop_late calls (ChangeFileProp token name value) = not (is_current calls token)
is_prop_late calls (AddDirectory path parent token) = changed_late calls parent
is_prop_late calls (OpenDirectory path parent base token) = changed_late calls parent
is_prop_late calls _ = false

-- a delete of an entry that was opened or added
abbrev pub is_delete_late : List Call → Call → Bool
is_delete_late calls (DeleteEntry path rev parent) = list_any (opens_entry path) calls
is_delete_late calls _ = false

-- a second open or add of an entry, a second delete, an open after its delete, a second open of the root
abbrev pub is_entry_again : List Call → Call → Bool
is_entry_again calls (OpenRoot base token) = list_any (opens_entry []) calls
is_entry_again calls (DeleteEntry path rev parent) = list_any (deletes path) calls
is_entry_again calls (AddDirectory path parent token) = list_any (opens_entry path) calls
is_entry_again calls (AddFile path parent token) = list_any (opens_entry path) calls
is_entry_again calls (OpenDirectory path parent base token) = list_any (opens_entry path) calls || list_any (deletes path) calls
is_entry_again calls (OpenFile path parent base token) = list_any (opens_entry path) calls || list_any (deletes path) calls
is_entry_again calls _ = false

abbrev pub is_text_again : List Call → Call → Bool
is_text_again calls (ApplyText token base_md5 text) = list_any (applies_text token) calls
is_text_again calls _ = false

-- the edit ends while a directory or a file is open, or before the root was opened
abbrev pub is_root_unclosed : List Call → Call → Bool
is_root_unclosed calls CloseEdit = not (is_some (given calls 0)) || a_directory_is_open calls || a_file_is_open calls
is_root_unclosed calls _ = false

-- the faults in the order in which they are looked for
abbrev pub fault_in_order : List Call → Call → Option OrderFault
fault_in_order calls c =
    if is_target_late calls c then Some TargetFirst
    else if is_token_unknown calls c then Some UnknownToken
    else if is_token_closed calls c then Some ClosedToken
    else if is_token_misnumbered calls c then Some TokenOrder
    else if is_path_wrong calls c then Some WrongPath
    else if is_file_unfinished calls c then Some FileOpen
    else if is_too_early calls c then Some TooEarly
    else if is_not_innermost calls c then Some NotInnermost
    else if is_open_below calls c then Some OpenBelow
    else if is_prop_late calls c then Some PropLate
    else if is_delete_late calls c then Some DeleteLate
    else if is_entry_again calls c then Some EntryAgain
    else if is_text_again calls c then Some TextAgain
    else if is_root_unclosed calls c then Some RootNotClosed
    else None

-- an abort is out of order after the end alone
abbrev pub but_abort : List Call → Call → Option OrderFault
but_abort calls AbortEdit = None
but_abort calls c = fault_in_order calls c

abbrev pub order_fault : List Call → Call → Option OrderFault
order_fault calls c = if list_any is_last calls then Some Ended else but_abort calls c

abbrev pub IsLawfulAfter : List Call → List Call → Type 0
IsLawfulAfter earlier [] = Unit {0}
IsLawfulAfter earlier (c ∷ calls) = (order_fault earlier c ≡ None) × IsLawfulAfter (earlier ++ c ∷ []) calls

abbrev pub IsLawful : List Call → Type 0
IsLawful calls = IsLawfulAfter [] calls

-- the result of a call with this fault, or with none; where there is none, Memory is still allowed
abbrev pub Answers : Option OrderFault → Result (Unit {0}) OrderFault → Type 0
Answers None (Ok done) = Unit {0}
Answers None (Err e) = e ≡ Memory
Answers (Some fault) (Ok done) = ⊥
Answers (Some fault) (Err e) = e ≡ fault
