-- The number and the name that each fault is known by.
use Rattle.std.specs.Prelude.{ℕ, List, codes}
use Rattle.svn_editor.specs.declared.fault.OrderFault.{OrderFault}
use Rattle.svn_editor.specs.declared.fault.OrderFault.TheVariants.{TargetFirst, UnknownToken, ClosedToken, EntryAgain, DeleteLate}
use Rattle.svn_editor.specs.declared.fault.OrderFault.TheVariants.{NotInnermost, OpenBelow, PropLate, FileOpen, TextAgain, RootNotClosed}
use Rattle.svn_editor.specs.declared.fault.OrderFault.TheVariants.{Ended, Dead, TokenOrder, WrongPath, TooEarly}
use Rattle.svn_editor.specs.declared.fault.OrderFault.TheVariants as order
use Rattle.svn_editor.specs.declared.fault.EditFault.{EditFault}
use Rattle.svn_editor.specs.declared.fault.EditFault.TheVariants.{Order, NoEntry, WrongKind, WrongRevision, BaseChecksum, TextChecksum}
use Rattle.svn_editor.specs.declared.fault.EditFault.TheVariants.{EntryExists, TooLong, Late, Stopped}
use Rattle.svn_editor.specs.declared.fault.EditFault.TheVariants as edit

abbrev pub order_fault_number : OrderFault → ℕ
order_fault_number TargetFirst = 1
order_fault_number UnknownToken = 2
order_fault_number ClosedToken = 3
order_fault_number EntryAgain = 4
order_fault_number DeleteLate = 5
order_fault_number NotInnermost = 6
order_fault_number OpenBelow = 7
order_fault_number PropLate = 8
order_fault_number FileOpen = 9
order_fault_number TextAgain = 10
order_fault_number RootNotClosed = 11
order_fault_number Ended = 12
order_fault_number Dead = 13
order_fault_number TokenOrder = 14
order_fault_number WrongPath = 15
order_fault_number order.Memory = 16
order_fault_number TooEarly = 17

abbrev pub order_fault_name : OrderFault → List ℕ
order_fault_name TargetFirst = codes "TargetFirst"
order_fault_name UnknownToken = codes "UnknownToken"
order_fault_name ClosedToken = codes "ClosedToken"
order_fault_name EntryAgain = codes "EntryAgain"
order_fault_name DeleteLate = codes "DeleteLate"
order_fault_name NotInnermost = codes "NotInnermost"
order_fault_name OpenBelow = codes "OpenBelow"
order_fault_name PropLate = codes "PropLate"
order_fault_name FileOpen = codes "FileOpen"
order_fault_name TextAgain = codes "TextAgain"
order_fault_name RootNotClosed = codes "RootNotClosed"
order_fault_name Ended = codes "Ended"
order_fault_name Dead = codes "Dead"
order_fault_name TokenOrder = codes "TokenOrder"
order_fault_name WrongPath = codes "WrongPath"
order_fault_name order.Memory = codes "Memory"
order_fault_name TooEarly = codes "TooEarly"

abbrev pub edit_fault_number : EditFault → ℕ
edit_fault_number (Order fault) = order_fault_number fault
edit_fault_number NoEntry = 41
edit_fault_number WrongKind = 42
edit_fault_number WrongRevision = 43
edit_fault_number BaseChecksum = 44
edit_fault_number TextChecksum = 45
edit_fault_number edit.Memory = 46
edit_fault_number EntryExists = 47
edit_fault_number edit.TooDeep = 48
edit_fault_number TooLong = 49
edit_fault_number (Late n) = 50
edit_fault_number Stopped = 51

-- that of the order's fault, where it is one
abbrev pub edit_fault_name : EditFault → List ℕ
edit_fault_name (Order fault) = order_fault_name fault
edit_fault_name NoEntry = codes "NoEntry"
edit_fault_name WrongKind = codes "WrongKind"
edit_fault_name WrongRevision = codes "WrongRevision"
edit_fault_name BaseChecksum = codes "BaseChecksum"
edit_fault_name TextChecksum = codes "TextChecksum"
edit_fault_name edit.Memory = codes "Memory"
edit_fault_name EntryExists = codes "EntryExists"
edit_fault_name edit.TooDeep = codes "TooDeep"
edit_fault_name TooLong = codes "TooLong"
edit_fault_name (Late n) = codes "Late"
edit_fault_name Stopped = codes "Stopped"
