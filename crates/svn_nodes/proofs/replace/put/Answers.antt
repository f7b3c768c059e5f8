use Rattle.std.proofs.Common.{Some}
use Rattle.law_copy.proofs.Lookups.{get_in-updated}
use Rattle.svn_nodes.proofs.replace.put.Goals as goal

pub returns-in-Ok : goal.returns-in-Ok
returns-in-Ok c =
    λ p. get_in-updated c.args.nodes.now.entries c.insert.new.self.entries c.args.path (Some c.args.node) c.in-Ok.ensures.updates.0 p
