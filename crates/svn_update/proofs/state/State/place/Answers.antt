use Rattle.std.proofs.Common.{ap, sym, ◌∙◌, Some}
use Rattle.svn_repo.specs.History.{History}
use Rattle.svn_run.specs.UpdateTheorem.{Nodes}
use Rattle.svn_update.specs.declared.answer.Answer.{Answer}
use Rattle.svn_update.specs.Commands.{AnswersPlace}
use Rattle.svn_update.specs.ScriptStates.{ScriptState}
use Rattle.svn_update.proofs.CopyLemmas.{built, on_changed}
use Rattle.svn_update.proofs.TruthLemmas.{stays_true}
use Rattle.svn_update.proofs.state.State.place.Goals as goal

pub returns-clause-answer : goal.returns-clause-answer
returns-clause-answer c =
    let left = c.place-placed.new.self in
    on_changed c.self.inside.repo c.args.self.now.repo c.args.self.now.copy c.in-Some.copy left c.place-placed.result c.built.result
    (λ (h : History) (w : Nodes) (a : Answer). AnswersPlace h w c.args.path.now c.args.rev (Some left) a)
    (ap (λ (s : ScriptState). s.repo) c.self.view_is) (ap (λ (s : ScriptState). s.copy) (sym c.self.view_is) ∙ c.in-Some.is) c.built.ensures
    (built _ _ _ c.in-Some.copy left c.place-placed.result
    c.place-placed.ensures.nodes c.place-placed.ensures.made c.place-placed.ensures.fault c.place-placed.ensures.unchanged
    c.law.ensures.order)

pub invariant_of-self-2 : goal.invariant_of-self-2
invariant_of-self-2 c =
    stays_true c.self.inside.repo c.self.inside.copy c.in-Some.copy c.place-placed.new.self c.place-placed.result c.self.invariant c.in-Some.is
    c.place-placed.ensures.truth c.place-placed.ensures.unchanged
