use Rattle.svn_disk.specs.Plans.{entry_work, work_of}
use Rattle.svn_disk.proofs.Planning.{next_node, last_node}
use Rattle.svn_disk.proofs.contents.works_of.Goals as goal

pub loop-path-preserved : goal.loop-path-preserved
loop-path-preserved c =
    next_node entry_work c.loop-path.work.items c.push_work.new.work.items (work_of c.args.copy.now) (c.in-Some.path.now, c.in-Some.node.now) c.next.new.self
    c.loop-path.path-iterator c.in-Some.ensures.steps c.in_ok-push_work.ensures c.loop-path.invariant

pub returns : goal.returns
returns c =
    last_node entry_work c.loop-path.work.items (work_of c.args.copy.now) c.loop-path.path-iterator c.in-None.ensures.steps.0 c.loop-path.invariant
