use Rattle.std.proofs.Common.{◌≡◌, Some, sym, ap, ◌∙◌, inr}
use Rattle.std.specs.Result.{result_err}
use Rattle.svn_repo.specs.Changes.{change_fault}
use Rattle.svn_repo.specs.Transactions.{pending_of}
use Rattle.svn_repo.proofs.Transactions.{can_be_made, fault_told, given_up, is_aborted, is_aborted_open, is_changed, is_changed_open, is_past}
use Rattle.svn_repo.proofs.Transactions.{roots_old}
use Rattle.svn_repo.proofs.UnansweredFaults.{change_other}
use Rattle.svn_repo.proofs.transaction.Transaction.change.Goals as goal

pub examine-requires-clause-past : goal.examine-requires-clause-past
examine-requires-clause-past c = rw (c.deref.ensures.value, c.deref-2.ensures.value)
    (is_past _ _ _ _ _ _ _ c.self.invariant)

pub make-requires-clause-roots_in : goal.make-requires-clause-roots_in
make-requires-clause-roots_in c = roots_old _ _ _ _ _ _ _ c.self.invariant

pub returns-in-Err-clause-fault : goal.returns-in-Err-clause-fault
returns-in-Err-clause-fault c =
    let fault : change_fault c.args.self.now.history (pending_of c.args.self.now) c.args.change.now ≡ Some c.in-Err.fault =
    sym (fault_told _ _ _ _ _ _ _ c.self.invariant _ _ c.deref.ensures.value c.deref-2.ensures.value c.args.change.now
    (result_err c.examine.result) c.examine.ensures.fault c.args.self.now c.self.view_is) ∙ ap result_err c.in-Err.is in
    inr fault

pub returns-in-Err-clause-memory : goal.returns-in-Err-clause-memory
returns-in-Err-clause-memory c =
    let fault : change_fault c.args.self.now.history (pending_of c.args.self.now) c.args.change.now ≡ Some c.in-Err.fault =
    sym (fault_told _ _ _ _ _ _ _ c.self.invariant _ _ c.deref.ensures.value c.deref-2.ensures.value c.args.change.now
    (result_err c.examine.result) c.examine.ensures.fault c.args.self.now c.self.view_is) ∙ ap result_err c.in-Err.is in
    λ e. absurd ((change_other c.args.self.now.history (pending_of c.args.self.now) c.args.change.now).1 (fault ∙ ap Some e))

pub returns-in-Err-clause-never_full : goal.returns-in-Err-clause-never_full
returns-in-Err-clause-never_full c =
    let fault : change_fault c.args.self.now.history (pending_of c.args.self.now) c.args.change.now ≡ Some c.in-Err.fault =
    sym (fault_told _ _ _ _ _ _ _ c.self.invariant _ _ c.deref.ensures.value c.deref-2.ensures.value c.args.change.now
    (result_err c.examine.result) c.examine.ensures.fault c.args.self.now c.self.view_is) ∙ ap result_err c.in-Err.is in
    λ e. (change_other c.args.self.now.history (pending_of c.args.self.now) c.args.change.now).0 (fault ∙ ap Some e)

pub returns-in-Err-clause-given_up : goal.returns-in-Err-clause-given_up
returns-in-Err-clause-given_up c =
    let fault : change_fault c.args.self.now.history (pending_of c.args.self.now) c.args.change.now ≡ Some c.in-Err.fault =
    sym (fault_told _ _ _ _ _ _ _ c.self.invariant _ _ c.deref.ensures.value c.deref-2.ensures.value c.args.change.now
    (result_err c.examine.result) c.examine.ensures.fault c.args.self.now c.self.view_is) ∙ ap result_err c.in-Err.is in
    λ e. absurd ((change_other c.args.self.now.history (pending_of c.args.self.now) c.args.change.now).1 (fault ∙ ap Some e))

pub returns-in-Ok-make-clause-made : goal.returns-in-Ok-make-clause-made
returns-in-Ok-make-clause-made c =
    sym (fault_told _ _ _ _ _ _ _ c.self.invariant _ _ c.deref.ensures.value c.deref-2.ensures.value c.args.change.now
    (result_err c.examine.result) c.examine.ensures.fault c.args.self.now c.self.view_is) ∙ ap result_err c.in-Ok.is

pub returns-in-Err-make-clause-memory : goal.returns-in-Err-make-clause-memory
returns-in-Err-make-clause-memory c =
    λ e. sym (fault_told _ _ _ _ _ _ _ c.self.invariant _ _ c.deref.ensures.value c.deref-2.ensures.value c.args.change.now
    (result_err c.examine.result) c.examine.ensures.fault c.args.self.now c.self.view_is) ∙ ap result_err c.in-Ok.is

pub invariant_of-self : goal.invariant_of-self
invariant_of-self c =
    let can = can_be_made _ _ _ _ _ _ _ c.self.invariant _ _ c.deref.ensures.value c.deref-2.ensures.value c.args.change.now
    (result_err c.examine.result) c.examine.ensures.fault (ap result_err c.in-Ok.is) in
    rw c.in-Ok-make.ensures.base (is_changed_open _ _ _ _ _ _ _ c.self.invariant _ _ _ _ c.make.ensures.kept can c.in-Ok-make.ensures.ok)

pub returns-in-Ok-make-clause-ok : goal.returns-in-Ok-make-clause-ok
returns-in-Ok-make-clause-ok c =
    let can = can_be_made _ _ _ _ _ _ _ c.self.invariant _ _ c.deref.ensures.value c.deref-2.ensures.value c.args.change.now
    (result_err c.examine.result) c.examine.ensures.fault (ap result_err c.in-Ok.is) in
    rw (← c.self.view_is, c.in-Ok-make.ensures.base) (is_changed _ _ _ _ _ _ _ c.self.invariant _ _ _ _ c.make.ensures.kept can c.in-Ok-make.ensures.ok)

pub invariant_of-self-in-Err-make : goal.invariant_of-self-in-Err-make
invariant_of-self-in-Err-make c =
    let told = c.give_up-self-inside.ensures in
    let gone = given_up _ _ _ _ _ _ _ c.self.invariant c.make.new.nodes.items _ c.make.ensures.kept told.nodes in
    rw (told.roots, told.heights, told.lines) (is_aborted_open _ _ _ _ _ _ _ c.self.invariant _ gone _ _ told.base told.root)

pub returns-in-Err-make-clause-given_up : goal.returns-in-Err-make-clause-given_up
returns-in-Err-make-clause-given_up c =
    let told = c.give_up-self-inside.ensures in
    let gone = given_up _ _ _ _ _ _ _ c.self.invariant c.make.new.nodes.items _ c.make.ensures.kept told.nodes in
    λ e. rw (← c.self.view_is, told.roots, told.lines) (is_aborted _ _ _ _ _ _ _ c.self.invariant _ gone _ _ told.base told.root)
