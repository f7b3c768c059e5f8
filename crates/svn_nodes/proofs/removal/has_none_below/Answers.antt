use Rattle.std.proofs.Common.{◌≡◌, ◌∷◌, [], false, sym, subst, rules}
use Rattle.svn_types.specs.Names.{Path}
use Rattle.svn_types.specs.Paths.{is_within}
use Rattle.svn_model.specs.declared.base_node.BaseNode.{BaseNode}
use Rattle.svn_model.specs.Nodes.{InPathOrder}
use Rattle.svn_nodes.proofs.Ranges.{none_below, order_run, IsPast, nothing_left, outside_next}
use Rattle.svn_nodes.proofs.removal.has_none_below.Goals as goal

pub returns-in-None : goal.returns-in-None
returns-in-None c = λ yes.
    let path = c.args.at.now in
    let range = c.range-after.ensures in
    let none : c.range-after.result ≡ [] = c.in-None.ensures.steps.0 in
    none_below path c.args.nodes.now.entries c.range-after.result (range.between tt)
    (subst InPathOrder (sym range.contiguous.2) (order_run c.args.nodes.now.entries range.contiguous.0 range.contiguous.1 range.ordered))
    (subst (IsPast path) (sym none) nothing_left)

pub returns-in-Some : goal.returns-in-Some
returns-in-Some c = λ yes.
    let path = c.args.at.now in
    let range = c.range-after.ensures in
    let e : Path × BaseNode = (c.in-Some.next.now, c.in-Some.field-0-1.now) in
    let step : c.range-after.result ≡ e ∷ c.next.new.self = c.in-Some.ensures.steps in
    let out : is_within path c.in-Some.next.now ≡ false = search rules in
    none_below path c.args.nodes.now.entries c.range-after.result (range.between tt)
    (subst InPathOrder (sym range.contiguous.2) (order_run c.args.nodes.now.entries range.contiguous.0 range.contiguous.1 range.ordered))
    (subst (IsPast path) (sym step) (outside_next e c.next.new.self out))
