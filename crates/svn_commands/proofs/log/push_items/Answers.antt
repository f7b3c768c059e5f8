use Rattle.std.proofs.Common.{◌+◌, drop, arith}
use Rattle.svn_commands.specs.Asking.{wanted_as}
use Rattle.svn_commands.specs.LogItems.{item_bytes}
use Rattle.svn_commands.proofs.Logged.{at_front, one_more_written}
use Rattle.svn_commands.proofs.log.push_items.Goals as goal

pub loop-rev-preserved : goal.loop-rev-preserved
loop-rev-preserved c =
    let revs = c.args.revs.now in
    let i = c.loop-rev.rev-index in
    one_more_written (item_bytes c.args.view.served.now (wanted_as c.args.wanted)) c.args.out.now.items c.loop-rev.out.items c.push_item.new.out.items revs
    (drop i revs) (drop (i + 1) revs) c.rev-item.result c.loop-rev.invariant (at_front revs i c.rev-item.result (omega arith) c.rev-item.is)
    c.in_ok-push_item.ensures
