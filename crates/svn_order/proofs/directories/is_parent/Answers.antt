use Rattle.svn_order.proofs.Changes.{parent_by_name}
use Rattle.svn_order.proofs.directories.is_parent.Goals as goal

pub returns : goal.returns
returns c =
    parent_by_name c.args.directory.now c.args.path.now c.args.above.now c.args.name.now c.is_child_of.result c.requires
    c.is_child_of.ensures.child
