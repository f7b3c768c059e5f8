use Rattle.std.proofs.Common.{◌≡◌, ap, sym, ◌∙◌, Some}
use Rattle.svn_run.specs.UpdateTheorem.{asked}
use Rattle.svn_update.proofs.CopyLemmas.{answer_run, on_run, run_answers}
use Rattle.svn_update.proofs.TruthLemmas.{found_true}
use Rattle.svn_update.proofs.state.State.run_to.Goals.{in-Ok, in-Err}
use Rattle.svn_update.proofs.state.State.run_to.Goals as goal

pub returns-clause-answer : goal.returns-clause-answer
returns-clause-answer g c =
    let request = c.args.request.now in
    let left = c.run_copy-ended.new.copy in
    let is : c.match-ended.result ≡ answer_run c.run_copy-ended.result =
    elim c.match-ended.branch [
      | in-Ok w ↦ w.result-is ∙ sym (ap answer_run w.in-Ok.is)
      | in-Err w ↦ w.result-is ∙ sym (ap answer_run w.in-Err.is)
    ] in
    on_run c.args.settings _ c.args.self.now request c.in-Some.copy (Some left) c.match-ended.result
    c.self.view_is c.in-Some.is
    (run_answers c.args.settings
    (asked c.self.inside.repo c.in-Some.copy request) left c.run_copy-ended.result
    c.match-ended.result is
    (found_true c.self.inside.repo c.self.inside.copy c.in-Some.copy c.self.invariant c.in-Some.is) c.law.ensures.order
    c.run_copy-ended.ensures)
