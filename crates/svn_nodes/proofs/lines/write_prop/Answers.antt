use Rattle.std.proofs.Output.{has_written_of_eq}
use Rattle.svn_nodes.proofs.PropLines.{prop_line_from}
use Rattle.svn_nodes.proofs.lines.write_prop.Goals as goal

pub returns : goal.returns
returns g c = λ plain ok.
    has_written_of_eq _ _ _ _ _
    (prop_line_from c.args.start.now c.args.name.now c.as_str-name.result.now c.args.value.now c.as_slice.result.now c.as_str-name.ensures.value
    c.as_slice.ensures c.as_str-name.ensures.name)
    (c.writeln.ensures.writes plain ok)
