use Rattle.std.proofs.Common.{List, sym, ◌∙◌, ap, true≢false}
use Rattle.svn_folder.specs.declared.step.Step.{Step}
use Rattle.svn_folder.specs.declared.memory.Origin.{Origin}
use Rattle.svn_folder.specs.States.{seen, empty}
use Rattle.svn_folder.specs.Steps.{run}
use Rattle.svn_folder.specs.Memory.{origin_in}
use Rattle.svn_folder.proofs.Back.{step_back, no_steps, nothing_at_first}
use Rattle.svn_folder.proofs.memory.entry_at.Goals as goal

pub returns-in-Made : goal.returns-in-Made
returns-in-Made c =
    sym (c.back.invariant
    ∙ step_back c.back.rest.now c.in-Some.before.now c.in-Some.step.now c.back.place c.in_ok-entry.field-0 c.in-Some.ensures.cases.0 c.in_ok-entry.ensures
    ∙ ap (λ (o : Origin). origin_in o (run empty c.in-Some.before.now)) c.in-Made.is)

pub back-preserved : goal.back-preserved
back-preserved c =
    c.back.invariant
    ∙ step_back c.back.rest.now c.in-Some.before.now c.in-Some.step.now c.back.place c.in_ok-entry.field-0 c.in-Some.ensures.cases.0 c.in_ok-entry.ensures
    ∙ ap (λ (o : Origin). origin_in o (run empty c.in-Some.before.now)) c.in-At.is

pub returns-then-is_root : goal.returns-then-is_root
returns-then-is_root c =
    sym (c.back.invariant
    ∙ ap (λ (l : List Step). seen (run empty l) c.back.place) (no_steps c.back.rest.now c.in_default.ensures.cases)
    ∙ ap (seen empty) (c.is_root.ensures.0 c.if-is_root.true))

pub returns : goal.returns
returns c =
    sym (c.back.invariant
    ∙ ap (λ (l : List Step). seen (run empty l) c.back.place) (no_steps c.back.rest.now c.in_default.ensures.cases)
    ∙ nothing_at_first c.back.place (λ e. true≢false (sym (c.is_root.ensures.1 e) ∙ c.if-is_root.false)))
