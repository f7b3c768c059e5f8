use Rattle.std.proofs.Common.{◌≡◌, ◌∷◌, ◌++◌, [], List, false, sym, ap, subst, ◌∙◌}
use Rattle.std.specs.Ordering.{is_eq}
use Rattle.svn_types.specs.Names.{Path}
use Rattle.svn_types.specs.Paths.{parent, path_eq}
use Rattle.svn_types.proofs.PathsInOrder.{at_path, path_tie}
use Rattle.svn_model.specs.declared.base_node.BaseNode.{BaseNode}
use Rattle.svn_model.specs.Nodes.{get_in, InPathOrder}
use Rattle.svn_nodes.proofs.Ranges.{order_run}
use Rattle.svn_nodes.proofs.NodeRanges.{above_among, not_last, last_found, none_behind, order_before}
use Rattle.svn_wc.proofs.working_copy.WorkingCopy.find_above.Goals as goal

pub nodes-init : goal.nodes-init
nodes-init c =
    let range = c.range-left.ensures in (
      subst InPathOrder (sym range.contiguous.2) (order_run c.self.inside.nodes.entries range.contiguous.0 range.contiguous.1 range.ordered),
      ap (λ (l : List (Path × BaseNode)). get_in l (parent c.args.path.now)) (range.between tt)
          ∙ above_among c.self.inside.nodes.entries c.args.path.now
          ∙ ap (λ (l : List (Path × BaseNode)). get_in l (parent c.args.path.now)) c.self.view_is,
    )

pub returns-in-Less : goal.returns-in-Less
returns-in-Less c =
    let e : Path × BaseNode = (c.in-Some.other.now, c.in-Some.node.now) in
    let step : c.nodes.left ≡ c.next_back.new.self ++ e ∷ [] = c.in-Some.ensures.steps in
    sym (none_behind c.next_back.new.self e (subst InPathOrder step c.nodes.invariant.0) (parent c.args.path.now)
    (sym c.compare_above.ensures ∙ c.in-Less.is))
    ∙ sym (ap (λ (l : List (Path × BaseNode)). get_in l (parent c.args.path.now)) step) ∙ c.nodes.invariant.1

pub returns-in-Equal : goal.returns-in-Equal
returns-in-Equal c =
    let e : Path × BaseNode = (c.in-Some.other.now, c.in-Some.node.now) in
    let step : c.nodes.left ≡ c.next_back.new.self ++ e ∷ [] = c.in-Some.ensures.steps in
    let here : e.0 ≡ parent c.args.path.now = path_tie e.0 (parent c.args.path.now) (sym c.compare_above.ensures ∙ c.in-Equal.is) in
    sym (last_found c.next_back.new.self e (subst InPathOrder step c.nodes.invariant.0))
    ∙ ap (get_in (c.next_back.new.self ++ e ∷ [])) here
    ∙ sym (ap (λ (l : List (Path × BaseNode)). get_in l (parent c.args.path.now)) step) ∙ c.nodes.invariant.1

pub nodes-preserved : goal.nodes-preserved
nodes-preserved c =
    let e : Path × BaseNode = (c.in-Some.other.now, c.in-Some.node.now) in
    let step : c.nodes.left ≡ c.next_back.new.self ++ e ∷ [] = c.in-Some.ensures.steps in
    let other : path_eq e.0 (parent c.args.path.now) ≡ false =
    sym (at_path e.0 (parent c.args.path.now)) ∙ ap is_eq (sym c.compare_above.ensures ∙ c.in-Greater.is) in (
      order_before c.next_back.new.self (e ∷ []) (subst InPathOrder step c.nodes.invariant.0),
      sym (not_last c.next_back.new.self e (parent c.args.path.now) other)
          ∙ sym (ap (λ (l : List (Path × BaseNode)). get_in l (parent c.args.path.now)) step) ∙ c.nodes.invariant.1,
    )
