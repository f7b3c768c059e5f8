use Rattle.std.proofs.Common.{◌≡◌, ◌∷◌, List, subst}
use Rattle.svn_types.specs.Names.{Path}
use Rattle.svn_model.specs.declared.base_node.BaseNode.{BaseNode}
use Rattle.svn_nodes.proofs.Replacing.{PutSoFar, put_on, place_there}
use Rattle.svn_nodes.proofs.replace.put_all.Goals as goal

pub put-requires : goal.put-requires
put-requires c =
    let step : c.loop-path.path-iterator ≡ (c.in-Some.path, c.in-Some.node) ∷ c.next.new.self = c.in-Some.ensures.steps in
    let inv =
    subst (λ (l : List (Path × BaseNode)). PutSoFar c.args.part.entries c.args.nodes.now.entries c.loop-path.nodes.entries l) step
    c.loop-path.invariant in
    place_there c.args.part.entries c.args.nodes.now.entries c.loop-path.nodes.entries c.len-count.ensures.ordered
    (c.in-Some.path, c.in-Some.node) c.next.new.self inv c.requires.places

pub loop-path-preserved : goal.loop-path-preserved
loop-path-preserved c =
    let step : c.loop-path.path-iterator ≡ (c.in-Some.path, c.in-Some.node) ∷ c.next.new.self = c.in-Some.ensures.steps in
    let inv =
    subst (λ (l : List (Path × BaseNode)). PutSoFar c.args.part.entries c.args.nodes.now.entries c.loop-path.nodes.entries l) step
    c.loop-path.invariant in
    put_on c.args.part.entries c.args.nodes.now.entries c.loop-path.nodes.entries c.len-count.ensures.ordered
    (c.in-Some.path, c.in-Some.node) c.next.new.self inv c.put.new.nodes.entries c.put.ensures
