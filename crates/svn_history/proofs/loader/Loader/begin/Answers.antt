use Rattle.std.proofs.Common.{◌≡◌, ℕ, Some, length, refl, subst, sym}
use Rattle.std.specs.Prelude.{Option}
use Rattle.svn_lists.proofs.Results.{IfErr_returned}
use Rattle.svn_history.specs.declared.fault.LoadFault.{LoadFault}
use Rattle.svn_history.specs.Parts.{Begins, next_fault, RefusesNext, bad_number, in_gap}
use Rattle.svn_history.proofs.Endings.{begins_number}
use Rattle.svn_history.proofs.loader.Loader.begin.Goals as goal

pub returns-clause-begins : goal.returns-clause-begins
returns-clause-begins g c =
    let old = c.args.self.now in
    let new = c.fill_gap.new.transaction in
    subst (λ (n : Option ℕ). Begins old.rev n old.transaction.history new.history) (sym c.in-Some.is)
    (begins_number old.rev old.transaction.history new.history c.in-Some.rev c.in_ok-check_number.ensures.ok c.fill_gap.ensures.commits
    c.in_ok-fill_gap.ensures.size c.fill_gap.ensures.first)

pub returns-in_err-check_number-clause-fault : goal.returns-in_err-check_number-clause-fault
returns-in_err-check_number-clause-fault g c =
    let old = c.args.self.now in
    let h = old.transaction.history in
    let e = c.in_err-check_number.field-0.0 in
    let Q : LoadFault → Type 0 = λ e. RefusesNext old.rev c.args.next h e h in
    let why : next_fault old.rev (length h.roots) c.args.next ≡ Some e =
    subst (λ (n : Option ℕ). next_fault old.rev (length h.roots) n ≡ Some e) (sym c.in-Some.is) c.in_err-check_number.ensures.fault in
    IfErr_returned (λ x. x ≡ e) Q c.from_residual.result c.from_residual.ensures (λ x is. subst Q (sym is) (bad_number why refl))

pub returns-in_err-fill_gap-clause-fault : goal.returns-in_err-fill_gap-clause-fault
returns-in_err-fill_gap-clause-fault g c =
    let old = c.args.self.now in
    let h = old.transaction.history in
    let Q : LoadFault → Type 0 = λ e. RefusesNext old.rev c.args.next h e c.fill_gap.new.transaction.history in
    IfErr_returned (λ x. x ≡ c.in_err-fill_gap.field-0.0) Q c.from_residual-in_err-fill_gap.result c.from_residual-in_err-fill_gap.ensures
    (λ x is. subst Q (sym is)
    (in_gap c.in-Some.rev c.in-Some.is c.in_ok-check_number.ensures.ok c.fill_gap.ensures.commits c.in_err-fill_gap.ensures.within
    c.in_err-fill_gap.ensures.fault))
