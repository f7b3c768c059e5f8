use Rattle.std.specs.List.{flat_map}
use Rattle.svn_disk.specs.Changes.{removing_file}
use Rattle.svn_disk.proofs.Planning.{next_node, last_node}
use Rattle.svn_disk.proofs.plan.Plan.files_that_go.Goals as goal

pub loop-path-preserved : goal.loop-path-preserved
loop-path-preserved c =
    let g = removing_file c.args.self.now.was.now in
    next_node g c.loop-path.work.items c.push_removing_file.new.work.items (flat_map g c.args.self.now.changes.entries) (c.in-Some.path.now, c.in-Some.change.now)
    c.next.new.self c.loop-path.path-iterator c.in-Some.ensures.steps c.in_ok-push_removing_file.ensures c.loop-path.invariant

pub returns : goal.returns
returns c =
    let g = removing_file c.args.self.now.was.now in
    last_node g c.loop-path.work.items (flat_map g c.args.self.now.changes.entries) c.loop-path.path-iterator c.in-None.ensures.steps.0 c.loop-path.invariant
