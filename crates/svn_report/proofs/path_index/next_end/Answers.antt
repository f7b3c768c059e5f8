use Rattle.svn_report.specs.ReportOrder.{end_cmp, end_total}
use Rattle.svn_report.proofs.Listings.{next_is}
use Rattle.svn_report.proofs.path_index.next_end.Goals as goal

pub returns : goal.returns
returns c = next_is end_cmp end_total c.args.ends.now c.args.end.now _ _ c.next.result
    (c.range-after.ensures.in_range tt) c.next.ensures.steps
