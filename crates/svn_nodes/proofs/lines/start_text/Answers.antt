use Rattle.std.proofs.Common.{◌++◌, ℕ, List, ap, ◌∙◌}
use Rattle.std.proofs.Output.{contents_after_writes}
use Rattle.svn_nodes.specs.Lines.{prop_start}
use Rattle.svn_nodes.proofs.lines.start_text.Goals as goal

pub returns-in-Ok : goal.returns-in-Ok
returns-in-Ok c =
    contents_after_writes _ (λ text. text.bytes) (λ before bytes after appended. appended) _ _ _ c.in-Ok.ensures.writes
    ∙ ap (λ (l : List ℕ). l ++ prop_start c.args.path.now) c.new-text.ensures
