use Rattle.std.proofs.Common.{◌≡◌, [], ◌∷◌, ◌++◌, Some, Result, subst, sym}
use Rattle.std.specs.Prelude.{IfErr}
use Rattle.svn_repo.specs.declared.change.CommitFault.{CommitFault}
use Rattle.svn_repo.specs.Changes.{commit_fault}
use Rattle.svn_history.specs.declared.fault.LoadFault.{LoadFault}
use Rattle.svn_history.specs.Results.{Fails}
use Rattle.svn_history.specs.Steps.{draft_of, one}
use Rattle.svn_answers.specs.declared.written.WriteFault.{WriteFault}
use Rattle.svn_answers.specs.declared.written.WriteFault.TheVariants.{Refused}
use Rattle.svn_answers.specs.Written.{IsIn, ScriptHistory, WritingState}
use Rattle.svn_answers.proofs.Writings.{change_refused}
use Rattle.svn_answers.proofs.written.Writing.change.Goals as goal
use Rattle.svn_answers.proofs.written.Writing.change.Goals.{in-Ok, in-Err}

pub returns-clause-fault : goal.returns-clause-fault
returns-clause-fault c =
    let writer = c.self.inside.writer in
    let P : WriteFault → Type 0 =
    λ e. (f : CommitFault) → e ≡ Refused f → (s : ScriptHistory) → IsIn s c.args.self.now.writer → commit_fault s.history (s.pending ++ c.args.change.now ∷ []) ≡ Some f in
    elim c.match-change.branch [
      | in-Ok w ↦ subst (λ (r : Result (Unit {0}) WriteFault). IfErr r P) (sym w.result-is) tt
      | in-Err w ↦ subst (λ (r : Result (Unit {0}) WriteFault). IfErr r P) (sym w.result-is)
          (λ f is s at.
          change_refused writer c.args.change.now f
          (subst (λ (e : LoadFault). Fails e (one c.args.change.now (draft_of writer.transaction))) (w.change_fault.ensures.refused f is)
          w.in-Err.ensures.fault) s (subst (λ (v : WritingState). IsIn s v.writer) (sym c.self.view_is) at))
    ]
