use Rattle.std.proofs.Common.{◌++◌, ℕ, List, ap, ◌∙◌}
use Rattle.std.proofs.Output.{contents_after_writes}
use Rattle.svn_update.specs.Answers.{call_text}
use Rattle.svn_update.proofs.answer.put_call.Goals as goal

pub returns-in-Ok : goal.returns-in-Ok
returns-in-Ok c =
    contents_after_writes _ (λ text. text.bytes) (λ before bytes after appended. appended) _ _ _ c.in-Ok.ensures.writes
    ∙ ap (λ (l : List ℕ). l ++ call_text c.args.call.now) c.clear.ensures
