use Rattle.std.proofs.Common.{ap, ◌∙◌}
use Rattle.std.specs.Prelude.{slice_get}
use Rattle.svn_types.specs.Names.{Path}
use Rattle.svn_report.proofs.NextNames.{named_at}
use Rattle.svn_drive.proofs.report_part.name_at.Goals as goal

pub returns : goal.returns
returns c =
    let looked = c.get.ensures.lookup in
    named_at c.components.result.now c.args.depth c.get.result looked.1 looked.3
    ∙ ap (λ (q : Path). slice_get q c.args.depth) c.components.ensures.names
