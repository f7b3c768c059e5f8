use Rattle.std.proofs.Common.{length, ap, ◌∙◌}
use Rattle.std.proofs.Output.{has_written_of_eq}
use Rattle.svn_wcdb.specs.Sparse.{seen_left_out}
use Rattle.svn_answers.proofs.CheckedLines.{true_text}
use Rattle.svn_answers.proofs.checked.write_true.Goals as goal

pub returns : goal.returns
returns g c = λ plain ok.
    let checked = c.args.checked.now in
    has_written_of_eq _ _ _ _ _
    (true_text checked.name.0.now checked.copy.now (seen_left_out checked.left_out.now) checked.any_uuid checked.untold_root c.len-count.result c.span_of-span.result.first
    c.span_of-span.result.last c.uuid_text-uuid.result.now c.root_text-root.result.now (c.len-count.ensures.len ∙ ap length c.nodes.ensures) c.span_of-span.ensures.first
    c.span_of-span.ensures.last c.uuid_text-uuid.ensures c.root_text-root.ensures)
    (c.writeln.ensures.writes plain ok)
