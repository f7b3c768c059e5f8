-- The test of each rule, asked of what an order check holds in the place of the calls before.
use Rattle.std.specs.Prelude.{ℕ, Bool, true, false, ◌&&◌, ◌||◌, not, List, length, nat_eq, Option, Some, None, if◌then◌else◌}
use Rattle.std.specs.List.{list_any}
use Rattle.std.specs.Option.{option_map, option_or}
use Rattle.svn_types.specs.declared.kind.Kind.{Kind}
use Rattle.svn_types.specs.Names.{Path}
use Rattle.svn_editor.specs.declared.call.Call.{Call}
use Rattle.svn_editor.specs.declared.call.Call.TheVariants.{SetTargetRevision, OpenRoot, DeleteEntry, AddDirectory, OpenDirectory}
use Rattle.svn_editor.specs.declared.call.Call.TheVariants.{ChangeDirProp, CloseDirectory, AddFile, OpenFile, ChangeFileProp, ApplyText}
use Rattle.svn_editor.specs.declared.call.Call.TheVariants.{CloseFile, CloseEdit, AbortEdit}
use Rattle.svn_editor.specs.declared.fault.OrderFault.{OrderFault}
use Rattle.svn_editor.specs.declared.fault.OrderFault.TheVariants.{TargetFirst, UnknownToken, ClosedToken, EntryAgain, DeleteLate}
use Rattle.svn_editor.specs.declared.fault.OrderFault.TheVariants.{NotInnermost, OpenBelow, PropLate, FileOpen, TextAgain, RootNotClosed}
use Rattle.svn_editor.specs.declared.fault.OrderFault.TheVariants.{TokenOrder, WrongPath, TooEarly}
use Rattle.svn_order.specs.declared.directories.OpenedDirectory.{OpenedDirectory}
use Rattle.svn_order.specs.declared.tokens.GivenToken.{GivenToken}
use Rattle.svn_order.specs.declared.order.OrderCheck.{OrderCheck}
use Rattle.svn_order.specs.declared.order.Stage.{Stage}
use Rattle.svn_order.specs.declared.order.Stage.TheVariants.{Before}
use Rattle.svn_editor.specs.Calls.{given_by, named_by, entry_of, number_eq}
use Rattle.svn_order.specs.Tokens.{is_of_kind_at, is_closed_at, has_text_at, is_unclosed_file}
use Rattle.svn_order.specs.Directories.{innermost_of, changed_late_in, holds_entry, is_opened_in, is_deleted_in}

abbrev pub is_before : Stage → Bool
is_before Before = true
is_before _ = false

abbrev pub target_late : Stage → Call → Bool
target_late stage (SetTargetRevision rev) = not (is_before stage)
target_late stage _ = is_before stage

abbrev pub unknown_in : List GivenToken → Option (ℕ × Kind) → Bool
unknown_in tokens None = false
unknown_in tokens (Some named) = not (is_of_kind_at tokens named.0 named.1)

abbrev pub closed_in : List GivenToken → Option (ℕ × Kind) → Bool
closed_in tokens None = false
closed_in tokens (Some named) = is_closed_at tokens named.0

abbrev pub given_token : Call → Option ℕ
given_token c = option_map (λ g. g.token) (given_by c)

abbrev pub misnumbered_in : List GivenToken → Option ℕ → Bool
misnumbered_in tokens None = false
misnumbered_in tokens (Some t) = not (nat_eq t (length tokens))

abbrev pub outside_in : List OpenedDirectory → Option (ℕ × Kind) → Option Path → Bool
outside_in ds (Some named) (Some p) = not (holds_entry ds named.0 p)
outside_in ds _ _ = false

abbrev pub current_text : List GivenToken → Option ℕ → Bool
current_text tokens None = false
current_text tokens (Some t) = has_text_at tokens t

abbrev pub elsewhere : Option ℕ → Call → Bool
elsewhere current (ChangeFileProp token name value) = not (number_eq current (Some token))
elsewhere current (ApplyText token base_md5 text) = not (number_eq current (Some token))
elsewhere current (CloseFile token text_md5) = not (number_eq current (Some token))
elsewhere current CloseEdit = false
elsewhere current AbortEdit = false
elsewhere current _ = true

abbrev pub none_open : List OpenedDirectory → Bool
none_open ds = nat_eq (length ds) 0

abbrev pub too_early : OrderCheck → Call → Bool
too_early s (ApplyText token base_md5 text) = not (number_eq s.current (Some token)) && not (none_open s.directories.items)
too_early s (CloseFile token text_md5) = not (number_eq s.current (Some token)) && not (none_open s.directories.items)
too_early s _ = false

abbrev pub not_innermost : List OpenedDirectory → Call → Bool
not_innermost ds (AddDirectory path parent token) = not (number_eq (innermost_of ds) (Some parent))
not_innermost ds (OpenDirectory path parent base token) = not (number_eq (innermost_of ds) (Some parent))
not_innermost ds _ = false

abbrev pub open_below : List OpenedDirectory → Call → Bool
open_below ds (CloseDirectory token) = not (number_eq (innermost_of ds) (Some token))
open_below ds _ = false

abbrev pub prop_late : OrderCheck → Call → Bool
prop_late s (ChangeDirProp token name value) = not (number_eq (innermost_of s.directories.items) (Some token))
prop_late s (ChangeFileProp token name value) = not (number_eq s.current (Some token))
prop_late s (AddDirectory path parent token) = changed_late_in s.directories.items
prop_late s (OpenDirectory path parent base token) = changed_late_in s.directories.items
prop_late s _ = false

abbrev pub delete_late : List OpenedDirectory → Call → Bool
delete_late ds (DeleteEntry path rev parent) = is_opened_in ds path
delete_late ds _ = false

abbrev pub entry_again : OrderCheck → Call → Bool
entry_again s (OpenRoot base token) = not (nat_eq (length s.tokens.items) 0)
entry_again s (DeleteEntry path rev parent) = is_deleted_in s.directories.items path
entry_again s (AddDirectory path parent token) = is_opened_in s.directories.items path
entry_again s (AddFile path parent token) = is_opened_in s.directories.items path
entry_again s (OpenDirectory path parent base token) = is_opened_in s.directories.items path || is_deleted_in s.directories.items path
entry_again s (OpenFile path parent base token) = is_opened_in s.directories.items path || is_deleted_in s.directories.items path
entry_again s _ = false

abbrev pub text_again : List GivenToken → Call → Bool
text_again tokens (ApplyText token base_md5 text) = has_text_at tokens token
text_again tokens _ = false

abbrev pub root_unclosed : OrderCheck → Call → Bool
root_unclosed s CloseEdit =
    nat_eq (length s.tokens.items) 0 || not (none_open s.directories.items) || list_any is_unclosed_file s.tokens.items
root_unclosed s _ = false

-- of what the call names
abbrev pub naming_fault : OrderCheck → Call → Option OrderFault
naming_fault s c =
    if target_late s.stage c then Some TargetFirst
    else if unknown_in s.tokens.items (named_by c) then Some UnknownToken
    else if closed_in s.tokens.items (named_by c) then Some ClosedToken
    else if misnumbered_in s.tokens.items (given_token c) then Some TokenOrder
    else if outside_in s.directories.items (named_by c) (entry_of c) then Some WrongPath
    else None

-- of what is open
abbrev pub nesting_fault : OrderCheck → Call → Option OrderFault
nesting_fault s c =
    if current_text s.tokens.items s.current && elsewhere s.current c then Some FileOpen
    else if too_early s c then Some TooEarly
    else if not_innermost s.directories.items c then Some NotInnermost
    else if open_below s.directories.items c then Some OpenBelow
    else if prop_late s c then Some PropLate
    else None

-- of what was done before
abbrev pub repeating_fault : OrderCheck → Call → Option OrderFault
repeating_fault s c =
    if delete_late s.directories.items c then Some DeleteLate
    else if entry_again s c then Some EntryAgain
    else if text_again s.tokens.items c then Some TextAgain
    else if root_unclosed s c then Some RootNotClosed
    else None

abbrev pub fault_in : OrderCheck → Call → Option OrderFault
fault_in s c = option_or (naming_fault s c) (option_or (nesting_fault s c) (repeating_fault s c))
