use Rattle.std.proofs.Common.{ap, sym, ◌∙◌, Some}
use Rattle.svn_repo.specs.History.{History}
use Rattle.svn_run.specs.UpdateTheorem.{Nodes}
use Rattle.svn_update.specs.declared.answer.Answer.{Answer}
use Rattle.svn_update.specs.Commands.{AnswersSwitch}
use Rattle.svn_update.specs.ScriptStates.{ScriptState}
use Rattle.svn_update.proofs.CopyLemmas.{built, on_changed}
use Rattle.svn_update.proofs.TruthLemmas.{stays_true}
use Rattle.svn_update.proofs.state.State.switch.Goals as goal

pub returns-clause-answer : goal.returns-clause-answer
returns-clause-answer c =
    let left = c.switch-switched.new.self in
    on_changed c.self.inside.repo c.args.self.now.repo c.args.self.now.copy c.in-Some.copy left c.switch-switched.result c.built.result
    (λ (h : History) (w : Nodes) (a : Answer). AnswersSwitch h w c.args.path.now c.args.repos_path.now c.args.rev (Some left) a)
    (ap (λ (s : ScriptState). s.repo) c.self.view_is) (ap (λ (s : ScriptState). s.copy) (sym c.self.view_is) ∙ c.in-Some.is) c.built.ensures
    (built _ _ _ c.in-Some.copy left c.switch-switched.result
    c.switch-switched.ensures.nodes c.switch-switched.ensures.made c.switch-switched.ensures.fault c.switch-switched.ensures.unchanged
    c.law.ensures.order)

pub invariant_of-self-2 : goal.invariant_of-self-2
invariant_of-self-2 c =
    stays_true c.self.inside.repo c.self.inside.copy c.in-Some.copy c.switch-switched.new.self c.switch-switched.result c.self.invariant c.in-Some.is
    c.switch-switched.ensures.truth c.switch-switched.ensures.unchanged
