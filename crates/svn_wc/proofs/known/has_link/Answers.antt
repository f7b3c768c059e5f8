use Rattle.std.proofs.Common.{sym, ◌∙◌}
use Rattle.svn_wc.proofs.Learning.{none_more}
use Rattle.svn_wc.proofs.known.has_link.Goals as goal

pub loop-i-preserved : goal.loop-i-preserved
loop-i-preserved c =
    none_more c.args.report.now.entries c.loop-i.i c.loop-i.invariant (sym c.is_link_at.ensures ∙ c.if-is_link_at.false)
