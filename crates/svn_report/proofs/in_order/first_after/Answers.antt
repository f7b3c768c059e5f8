use Rattle.std.proofs.Common.{rules, of_calls}
use Rattle.std.proofs.lemmas.Fn.{always_returns_same}
use Rattle.svn_report.specs.ReportOrder.{is_ahead_of_name}
use Rattle.svn_report.proofs.InOrder.{parted, ahead_parts, behind_at}
use Rattle.svn_report.proofs.in_order.first_after.Goals as goal

pub returns : goal.returns
returns c =
    let es = c.args.entries.now.entries in
    let p = c.args.path.now in
    let n = c.args.name.now in
    let parts = parted es (is_ahead_of_name p n) c.requires.ordered (ahead_parts p n) in
    behind_at es p n c.partition_point-i.result _ c.requires.ordered c.requires.lawful
    (c.partition_point-i.ensures.partitioned (λ e. is_ahead_of_name p n e.0)
    (always_returns_same _ _ _ (λ a r f k. search (rules, of_calls))) parts)
    c.path_at.ensures
