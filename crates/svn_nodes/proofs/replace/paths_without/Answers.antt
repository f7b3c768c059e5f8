use Rattle.std.proofs.Common.{◌≡◌, ◌∷◌, ◌++◌, [], List, true, false, refl, sym, ap, subst, ◌∙◌, rules}
use Rattle.svn_types.specs.Names.{Path}
use Rattle.svn_types.specs.Paths.{is_within}
use Rattle.svn_model.specs.declared.base_node.BaseNode.{BaseNode}
use Rattle.svn_model.specs.Nodes.{InPathOrder}
use Rattle.svn_nodes.proofs.Ranges.{IsPast, nothing_left, outside_next, order_run}
use Rattle.svn_nodes.proofs.Comparing.{Compared, compare_begins, compare_on, compare_ends}
use Rattle.svn_nodes.proofs.replace.paths_without.Goals as goal
use Rattle.svn_nodes.proofs.replace.paths_without.Goals.{in-None, in-Some+then-not-is_within}

pub loop-path-init : goal.loop-path-init
loop-path-init c =
    let from = c.from-beside.ensures in
    let range = c.range-path-items.ensures in
    let nodes = c.args.nodes.now.entries in
    let others = c.args.others.now.entries in
    subst (λ (l : List Path). Compared c.args.at.now nodes others c.from-beside.result l c.into_iter-path-iterator.result)
    (sym c.new-paths.ensures.items)
    (compare_begins c.args.at.now nodes others c.from-beside.result c.into_iter-path-iterator.result
    (subst InPathOrder (sym range.contiguous.2 ∙ range.between tt) (order_run nodes range.contiguous.0 range.contiguous.1 range.ordered))
    (c.into_iter-path-iterator.ensures.into_iter_gives ∙ range.between tt) from.behind
    (subst InPathOrder (sym from.run.2) (order_run others from.run.0 from.run.1 from.ordered)))

pub loop-path-preserved-in_ok-push : goal.loop-path-preserved-in_ok-push
loop-path-preserved-in_ok-push c =
    let e : Path × BaseNode = (c.in-Some.path.now, c.in-Some.field-0-1.now) in
    let s = c.loop-path.invariant in
    let within : is_within c.args.at.now e.0 ≡ true = search rules in
    compare_on c.args.at.now c.args.nodes.now.entries c.args.others.now.entries c.loop-path.beside c.pass_to.new.beside
    c.loop-path.paths.items c.push.new.self.items e c.loop-path.path-iterator c.next.new.self c.in-Some.ensures.steps s within false
    (sym c.if-not-pass_to.true ∙ c.pass_to.ensures.found s.order) (c.pass_to.ensures.ordered s.order) c.pass_to.ensures.behind
    (c.in_ok-push.ensures.items ∙ ap (λ (q : Path). c.loop-path.paths.items ++ q ∷ []) c.in_ok-clone.ensures.cases)

pub loop-path-preserved : goal.loop-path-preserved
loop-path-preserved c =
    let e : Path × BaseNode = (c.in-Some.path.now, c.in-Some.field-0-1.now) in
    let s = c.loop-path.invariant in
    let within : is_within c.args.at.now e.0 ≡ true = search rules in
    compare_on c.args.at.now c.args.nodes.now.entries c.args.others.now.entries c.loop-path.beside c.pass_to.new.beside
    c.loop-path.paths.items c.loop-path.paths.items e c.loop-path.path-iterator c.next.new.self c.in-Some.ensures.steps s within true
    (sym c.if-not-pass_to.false ∙ c.pass_to.ensures.found s.order) (c.pass_to.ensures.ordered s.order) c.pass_to.ensures.behind refl

pub returns : goal.returns
returns c =
    compare_ends c.args.at.now c.args.nodes.now.entries c.args.others.now.entries c.loop-path.beside c.loop-path.paths.items
    c.loop-path.path-iterator c.loop-path.invariant
    (elim c.match-next.branch [
      | in-None w ↦ let none : c.loop-path.path-iterator ≡ [] = w.in-None.ensures.steps.0 in
          subst (λ (l : List (Path × BaseNode)). IsPast c.args.at.now l) (sym none) nothing_left
      | in-Some+then-not-is_within w ↦
          let step : c.loop-path.path-iterator ≡ (w.in-Some.path.now, w.in-Some.field-0-1.now) ∷ c.next.new.self =
          w.in-Some.ensures.steps in
          let out : is_within c.args.at.now w.in-Some.path.now ≡ false = search rules in
          subst (λ (l : List (Path × BaseNode)). IsPast c.args.at.now l) (sym step)
          (outside_next (w.in-Some.path.now, w.in-Some.field-0-1.now) c.next.new.self out)
    ])
