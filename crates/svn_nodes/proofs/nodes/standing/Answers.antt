use Rattle.std.proofs.Common.{sym}
use Rattle.svn_types.proofs.PathsInOrder.{path_tie}
use Rattle.svn_nodes.proofs.nodes.standing.Goals as goal

pub returns-in-Some-clause-path : goal.returns-in-Some-clause-path
returns-in-Some-clause-path c = sym (path_tie c.args.path.now c.in-Some.own.now c.in-Some.ensures.same_key)
