-- What a working copy may return for a call.
--     IsAnswer fault e      the refusal is that fault, or Memory
--     AnswersCall fault answer      the result is that fault, or there is none; Memory is also allowed
--     WantsInOrder calls call answer      the result isn't Memory for a call that is out of order after those
use Rattle.std.specs.Prelude.{◌≡◌, List, Option, Some, None, Result, Ok, Err, IfErr}
use Rattle.svn_editor.specs.declared.call.Call.{Call}
use Rattle.svn_editor.specs.declared.fault.EditFault.{EditFault}
use Rattle.svn_editor.specs.declared.fault.EditFault.TheVariants.{Memory}
use Rattle.svn_editor.specs.Order.{order_fault}

-- the fault, or Memory
abbrev pub IsAnswer : Option EditFault → EditFault → Type 0
IsAnswer fault Memory = Unit {0}
IsAnswer fault e = fault ≡ Some e

abbrev pub AnswersCall : Option EditFault → Result (Unit {0}) EditFault → Type 0
AnswersCall fault (Ok done) = fault ≡ None
AnswersCall fault (Err e) = IsAnswer fault e

abbrev pub WantsInOrder : List Call → Call → Result (Unit {0}) EditFault → Type 0
WantsInOrder calls call answer = IfErr answer (λ e. e ≡ Memory → order_fault calls call ≡ None)
