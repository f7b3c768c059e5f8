use Rattle.std.proofs.Common.{◌≡◌, ◌≢◌, None, refl, sym, subst, rules}
use Rattle.std.specs.Prelude.{Option, Result, Err, IfErr}
use Rattle.md5.specs.Md5.{md5}
use Rattle.svn_lists.proofs.Results.{at_err, at_ok, err_by, OnErr_then, ok_by, OnErr_from}
use Rattle.svn_editor.specs.declared.fault.EditFault.{EditFault}
use Rattle.svn_editor.specs.declared.fault.EditFault.TheVariants.{Memory}
use Rattle.svn_editor.specs.Faults.{as_edit_fault}
use Rattle.svn_editor.specs.Order.{order_fault}
use Rattle.svn_editor.proofs.Accepted.{not_ended}
use Rattle.svn_model.specs.Effects.{edit_fault, refusal}
use Rattle.svn_model.specs.Answering.{AnswersCall, WantsInOrder}
use Rattle.svn_edit.proofs.Holding.{order_none, order_refused, not_memory, refusal_is, applied_answer, applied_copy, abort_is_last}
use Rattle.svn_edit.proofs.Holding.{copy_more, carried_of, next_is}
use Rattle.svn_edit.specs.Applying.{batons_of}
use Rattle.svn_edit.proofs.InOrder.{check_wants, rest_wants}
use Rattle.svn_edit.proofs.Bases.{noted_more}
use Rattle.svn_edit.proofs.LeftPools.{same_left, pools_same}
use Rattle.svn_edit.proofs.edit.Edit.take_in_order.Goals as goal

pub returns-clause-answers : goal.returns-clause-answers
returns-clause-answers c = λ w0 calls s.
    let call = c.args.call.now in
    let none : order_fault calls call ≡ None = order_none (order_fault calls call) (c.in_ok-step.ensures.answers calls s.order) in
    let next = next_is c.args.mode.now w0 c.args.self.now.pending c.args.copy.now.entries calls call
    (carried_of c.args.mode.now w0 c.args.self.now c.args.copy.now.entries calls s) none in
    subst (λ (f : Option EditFault). AnswersCall f c.apply.result) (sym (refusal_is md5 c.args.mode.now calls call c.args.copy.now.entries none))
    (applied_answer _ _ _ _ c.apply.result (c.apply.ensures.applied calls next (s.noted (not_ended calls call none))))

pub returns-clause-in_order : goal.returns-clause-in_order
returns-clause-in_order c = λ w0 calls s.
    rest_wants calls c.args.call.now c.apply.result (order_none (order_fault calls c.args.call.now) (c.in_ok-step.ensures.answers calls s.order))

pub returns-clause-accepted : goal.returns-clause-accepted
returns-clause-accepted c = ok_by c.apply.result (λ ok w0 calls s.
    let call = c.args.call.now in
    let none : order_fault calls call ≡ None = order_none (order_fault calls call) (c.in_ok-step.ensures.answers calls s.order) in
    let next = next_is c.args.mode.now w0 c.args.self.now.pending c.args.copy.now.entries calls call
    (carried_of c.args.mode.now w0 c.args.self.now c.args.copy.now.entries calls s) none in
    record {
      order = c.in_ok-step.ensures.accepted calls s.order;
      copy = copy_more c.args.mode.now w0 calls call c.args.copy.now.entries c.apply.new.copy.entries s.copy
          (at_ok c.apply.result ok (applied_copy _ _ _ _ c.apply.result (c.apply.ensures.applied calls next (s.noted (not_ended calls call none)))));
      stage = λ going. s.stage (not_ended calls call none);
      holds = λ going. at_ok c.apply.result ok c.apply.ensures.holds calls next going;
      left = λ last. at_ok c.apply.result ok (c.apply.ensures.left last) calls next;
      noted = λ going.
          let h = at_ok c.apply.result ok c.apply.ensures.holds calls next going in
          noted_more c.args.mode.now c.args.self.now.pending c.apply.new.self calls call c.args.copy.now.entries
          c.apply.new.copy.entries next going
          (at_ok c.apply.result ok (applied_copy _ _ _ _ c.apply.result (c.apply.ensures.applied calls next
          (s.noted (not_ended calls call none)))))
          h (at_ok c.apply.result ok c.apply.ensures.bases calls next going) (at_ok c.apply.result ok c.apply.ensures.base)
          (s.noted (not_ended calls call none));
      earlier = not_ended calls call none;
    })

pub returns-clause-refused : goal.returns-clause-refused
returns-clause-refused c = OnErr_then c.apply.result c.apply.ensures.refused (λ same w0 calls s. same)

pub returns-clause-pools : goal.returns-clause-pools
returns-clause-pools c = err_by c.apply.result (λ e bad w0 calls s going.
    let call = c.args.call.now in
    let none : order_fault calls call ≡ None = order_none (order_fault calls call) (c.in_ok-step.ensures.answers calls s.order) in
    let next = next_is c.args.mode.now w0 c.args.self.now.pending c.args.copy.now.entries calls call
    (carried_of c.args.mode.now w0 c.args.self.now c.args.copy.now.entries calls s) none in
    at_err c.apply.result e bad c.apply.ensures.pools calls next)

-- ---- a call out of order

pub returns-in_err-step-clause-answers : goal.returns-in_err-step-clause-answers
returns-in_err-step-clause-answers c = λ w0 calls s.
    let call = c.args.call.now in
    let fault = c.in_err-step.field-0.0 in
    let nodes = c.args.copy.now.entries in
    let refused : c.from_residual.result ≡ Err (as_edit_fault fault) = search rules in
    subst (λ (r : Result (Unit {0}) EditFault). AnswersCall (refusal md5 c.args.mode.now calls call nodes) r) (sym refused)
    (order_refused (order_fault calls call) fault (edit_fault md5 c.args.mode.now calls call nodes) (c.in_err-step.ensures.answers calls s.order))

pub returns-in_err-step-clause-in_order : goal.returns-in_err-step-clause-in_order
returns-in_err-step-clause-in_order c = λ w0 calls s.
    let fault = c.in_err-step.field-0.0 in
    let refused : c.from_residual.result ≡ Err (as_edit_fault fault) = search rules in
    subst (WantsInOrder calls c.args.call.now) (sym refused)
    (check_wants calls c.args.call.now fault (c.in_err-step.ensures.answers calls s.order))

pub returns-in_err-step-clause-last : goal.returns-in_err-step-clause-last
returns-in_err-step-clause-last c =
    let fault = c.in_err-step.field-0.0 in
    let refused : c.from_residual.result ≡ Err (as_edit_fault fault) = search rules in
    λ last update. subst (λ (r : Result (Unit {0}) EditFault). IfErr r (λ e. e ≢ Memory)) (sym refused)
    (not_memory fault (c.in_err-step.ensures.last last))

pub returns-in_err-step-clause-abort : goal.returns-in_err-step-clause-abort
returns-in_err-step-clause-abort c =
    let fault = c.in_err-step.field-0.0 in
    let refused : c.from_residual.result ≡ Err (as_edit_fault fault) = search rules in
    λ aborts. subst (λ (r : Result (Unit {0}) EditFault). IfErr r (λ e. e ≢ Memory)) (sym refused)
    (not_memory fault (c.in_err-step.ensures.last (abort_is_last c.args.call.now aborts)))

pub returns-in_err-step-clause-pools : goal.returns-in_err-step-clause-pools
returns-in_err-step-clause-pools c = OnErr_from c.from_residual.result (λ w0 calls s going.
    let old = c.args.self.now.pending in
    same_left old.pools old.pools (batons_of old) (batons_of old) calls c.args.call.now (s.going going).batons (pools_same old.pools)
    (λ t. refl))
