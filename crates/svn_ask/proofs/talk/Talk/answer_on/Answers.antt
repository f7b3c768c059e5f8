use Rattle.std.proofs.Common.{◌≡◌, sym, subst, rules}
use Rattle.svn_lists.proofs.Results.{IfErr_returned}
use Rattle.svn_ask.specs.declared.fault.AskFault.{AskFault}
use Rattle.svn_ask.specs.Reading.{Fails}
use Rattle.svn_ask.specs.Asking.{answered}
use Rattle.svn_ask.proofs.TalkLemmas.{answer_fails}
use Rattle.svn_ask.proofs.talk.Talk.answer_on.Goals as goal

pub returns-in_err-said-clause-fault : goal.returns-in_err-said-clause-fault
returns-in_err-said-clause-fault g c =
    let s = c.args.self.now in
    let queue = c.args.questions.now in
    let e = c.in_err-said.field-0.0 in
    let Q : AskFault → Type 0 = λ x. Fails x (answered s.step s.is_next queue queue.sent c.args.item.now) in
    IfErr_returned (λ x. x ≡ e) Q c.from_residual-in_err-said.result c.from_residual-in_err-said.ensures
    (λ x is. subst Q (sym is) (answer_fails s.step s.is_next queue queue.sent c.in-Some.question c.args.item.now e (search rules) c.in-Some.ensures c.in_err-said.ensures))
