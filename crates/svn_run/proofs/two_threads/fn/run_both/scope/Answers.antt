use Rattle.std.proofs.Common.{rules}
use Rattle.svn_model.specs.Nodes.{get_in}
use Rattle.svn_run.proofs.two_threads.fn.run_both.scope.Goals as goal

pub returns : goal.returns
returns g c =
    (search rules, c.take_all-taken.ensures (get_in c.captures.carrier.copy.nodes.entries) c.requires.5)
