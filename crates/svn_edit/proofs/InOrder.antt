-- Memory is returned for no call that is out of order.
use Rattle.std.proofs.Common.{◌≡◌, ◌≢◌, Bool, true, false, cond, List, refl, sym, ap, ◌∙◌}
use Rattle.std.specs.Prelude.{Option, Some, None, Result, Ok, Err}
use Rattle.std.specs.List.{list_any}
use Rattle.svn_editor.specs.declared.call.Call.{Call}
use Rattle.svn_editor.specs.declared.call.Call.TheVariants.{AbortEdit}
use Rattle.svn_editor.specs.declared.fault.EditFault.{EditFault}
use Rattle.svn_editor.specs.declared.fault.OrderFault.{OrderFault}
use Rattle.svn_editor.specs.declared.fault.OrderFault.TheVariants as order
use Rattle.svn_editor.specs.Calls.{is_last}
use Rattle.svn_editor.specs.Faults.{as_edit_fault}
use Rattle.svn_editor.specs.Order.{is_target_late, is_token_unknown, is_token_closed, is_token_misnumbered, is_path_wrong}
use Rattle.svn_editor.specs.Order.{is_file_unfinished, is_too_early, is_not_innermost, is_open_below, is_prop_late, is_delete_late}
use Rattle.svn_editor.specs.Order.{is_entry_again, is_text_again, is_root_unclosed, fault_in_order, but_abort, order_fault, Answers}
use Rattle.svn_model.specs.Answering.{WantsInOrder}
use Rattle.svn_edit.proofs.Holding.{not_memory}

abbrev NotMemory : Option OrderFault → Type 0
NotMemory fault = fault ≢ Some order.Memory

other : (b : Bool) (fault : OrderFault) (rest : Option OrderFault) → fault ≢ order.Memory → NotMemory rest → NotMemory (cond b (Some fault) rest)
other true fault rest ne h q = ne cc
other false fault rest ne h q = h q

-- the order's rules have no Memory
of_rules : (calls : List Call) (c : Call) → NotMemory (fault_in_order calls c)
of_rules calls c =
    other (is_target_late calls c) order.TargetFirst _ (λ q. cc)
    (other (is_token_unknown calls c) order.UnknownToken _ (λ q. cc)
    (other (is_token_closed calls c) order.ClosedToken _ (λ q. cc)
    (other (is_token_misnumbered calls c) order.TokenOrder _ (λ q. cc)
    (other (is_path_wrong calls c) order.WrongPath _ (λ q. cc)
    (other (is_file_unfinished calls c) order.FileOpen _ (λ q. cc)
    (other (is_too_early calls c) order.TooEarly _ (λ q. cc)
    (other (is_not_innermost calls c) order.NotInnermost _ (λ q. cc)
    (other (is_open_below calls c) order.OpenBelow _ (λ q. cc)
    (other (is_prop_late calls c) order.PropLate _ (λ q. cc)
    (other (is_delete_late calls c) order.DeleteLate _ (λ q. cc)
    (other (is_entry_again calls c) order.EntryAgain _ (λ q. cc)
    (other (is_text_again calls c) order.TextAgain _ (λ q. cc)
    (other (is_root_unclosed calls c) order.RootNotClosed None (λ q. cc) (λ q. cc))))))))))))))

of_others : (calls : List Call) (c : Call) → NotMemory (but_abort calls c)
of_others calls AbortEdit = λ q. cc
of_others calls c = of_rules calls c

of_order : (calls : List Call) (c : Call) → NotMemory (order_fault calls c)
of_order calls c = other (list_any is_last calls) order.Ended (but_abort calls c) (λ q. cc) (of_others calls c)

-- the order check wants memory for a call that is in order alone
pub check_wants : (calls : List Call) (c : Call) (fault : OrderFault) → Answers (order_fault calls c) (Err fault)
    → WantsInOrder calls c (Err (as_edit_fault fault))
check_wants calls c fault answers memory = by (order_fault calls c) (of_order calls c) answers
  where
    by : (o : Option OrderFault) → NotMemory o → Answers o (Err fault) → o ≡ None
    by None ne h = refl
    by (Some f) ne h = absurd (not_memory fault (λ q. ne (ap (λ x. Some x) (sym h ∙ q))) memory)

-- and then the rest does
pub rest_wants : (calls : List Call) (c : Call) (answer : Result (Unit {0}) EditFault) → order_fault calls c ≡ None
    → WantsInOrder calls c answer
rest_wants calls c (Ok done) none = tt
rest_wants calls c (Err e) none = λ memory. none
