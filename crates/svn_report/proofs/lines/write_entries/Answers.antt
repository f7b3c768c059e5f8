use Rattle.std.proofs.Common.{refl}
use Rattle.std.proofs.Output.{has_written_append, has_written_of_eq}
use Rattle.svn_lists.proofs.Parts.{flat_map-take_next}
use Rattle.svn_report.specs.Lines.{entry_text}
use Rattle.svn_report.proofs.lines.write_entries.Goals as goal

pub loop-i-preserved : goal.loop-i-preserved
loop-i-preserved g c = λ plain.
    let first = c.loop-i.invariant plain in
    has_written_of_eq _ _ _ _ _ (flat_map-take_next entry_text c.args.report.now.entries c.loop-i.i)
    (has_written_append _ _ _ _ _ _ first (c.in_ok-write_entry_at.ensures first.plain refl))
