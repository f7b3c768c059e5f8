use Rattle.svn_report.specs.ReportOrder.{end_cmp}
use Rattle.svn_report.proofs.EndOrder.{end_tied}
use Rattle.svn_report.proofs.Listings.{put_in}
use Rattle.svn_report.proofs.path_index.insert_end.Goals as goal

pub returns-clause-added : goal.returns-clause-added
returns-clause-added c = λ q. put_in end_cmp c.args.ends.now c.insert.new.self c.args.end q (end_tied c.args.end q)
    (c.in_ok-insert.ensures.updates.0 q)
