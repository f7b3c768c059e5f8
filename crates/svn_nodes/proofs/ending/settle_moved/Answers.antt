use Rattle.std.proofs.Common.{refl, ◌∙◌, rules}
use Rattle.std.specs.Vec.Iter.{into_iter_items}
use Rattle.svn_nodes.specs.contracts.ending.fn.settle_moved.retain as closure
use Rattle.svn_nodes.proofs.Settling.{settled_under}
use Rattle.svn_nodes.proofs.ending.settle_moved.Goals as goal

pub returns : goal.returns
returns c = λ root same. settled_under _ root c.args.target (λ f. (closure.captures f).target)
    (λ f. into_iter_items (closure.captures f).moved) (λ f k v b w g t. search rules) _ c.args.nodes.now.entries
    c.retain.new.self.entries refl (c.into_iter-moved.ensures.rest ∙ same) c.retain.ensures.was_ordered c.retain.ensures.filtered
