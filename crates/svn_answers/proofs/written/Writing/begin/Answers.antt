use Rattle.std.proofs.Common.{◌-◌, ◌^◌, ℕ, List, [], ◌++◌, length, min, ap, ◌∙◌}
use Rattle.svn_repo.specs.History.{new_history}
use Rattle.svn_answers.specs.Written.{AreDone, dump_beginning}
use Rattle.svn_answers.proofs.written.Writing.begin.Goals as goal

pub returns-clause-begun : goal.returns-clause-begun
returns-clause-begun g c = (
  record { history = new_history; pending = [] },
  AreDone.none,
  (c.new-2.ensures.history ∙ c.in-Ok-Ok.ensures'.ok, c.new-2.ensures.begun),
  c.in_ok-written.ensures.count
      ∙ ap (λ (l : List ℕ). min (length l) (2 ^ 64 - 1))
      (c.deref.ensures.value ∙ c.in-Ok-Ok.ensures.written ∙ ap (λ (l : List ℕ). l ++ dump_beginning) c.new-beginning.ensures.items),
)
