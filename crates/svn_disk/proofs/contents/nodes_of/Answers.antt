use Rattle.svn_disk.specs.Plans.{present_of, present_nodes}
use Rattle.svn_disk.proofs.Planning.{next_node, last_node}
use Rattle.svn_disk.proofs.contents.nodes_of.Goals as goal

pub loop-path-preserved : goal.loop-path-preserved
loop-path-preserved c =
    next_node present_of c.loop-path.nodes.items c.push_node.new.nodes.items (present_nodes c.args.copy.now) (c.in-Some.path.now, c.in-Some.node.now) c.next.new.self
    c.loop-path.path-iterator c.in-Some.ensures.steps c.in_ok-push_node.ensures c.loop-path.invariant

pub returns : goal.returns
returns c =
    last_node present_of c.loop-path.nodes.items (present_nodes c.args.copy.now) c.loop-path.path-iterator c.in-None.ensures.steps.0 c.loop-path.invariant
