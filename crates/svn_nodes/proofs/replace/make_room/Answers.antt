use Rattle.svn_nodes.proofs.Replacing.{restored}
use Rattle.svn_nodes.proofs.replace.make_room.Goals as goal

pub returns-in-Err-clause-unchanged : goal.returns-in-Err-clause-unchanged
returns-in-Err-clause-unchanged c =
    restored c.args.paths.now c.args.nodes.now.entries c.make_places.new.nodes.entries c.remove_all.new.nodes.entries
    c.len-before.ensures.ordered c.len-after.ensures.ordered c.requires.free
    c.in-Err.ensures.others c.remove_all.ensures
