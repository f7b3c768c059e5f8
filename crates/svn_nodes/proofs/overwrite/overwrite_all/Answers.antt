use Rattle.std.proofs.Common.{subst, rules}
use Rattle.svn_nodes.specs.contracts.overwrite.fn.overwrite_all.retain as closure
use Rattle.svn_model.specs.Nodes.{InPathOrder}
use Rattle.svn_nodes.proofs.Overwriting.{overwritten}
use Rattle.svn_nodes.proofs.overwrite.overwrite_all.Goals as goal

pub returns : goal.returns
returns c = overwritten _ (λ f. (closure.captures f).left) (λ f k v b w g t. search rules) _ c.args.part.entries c.args.nodes.now.entries
    c.retain.new.self.entries c.of-left.ensures.all (subst InPathOrder c.of-left.ensures.all c.of-left.ensures.ordered)
    c.retain.ensures.was_ordered c.requires.places c.retain.ensures.filtered
