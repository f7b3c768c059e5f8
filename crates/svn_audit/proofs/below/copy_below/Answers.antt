use Rattle.std.proofs.Common.{◌≡◌, ◌++◌, List, Option, Some, None, sym, ap, subst, ◌∙◌}
use Rattle.std.specs.Prelude.{OnOk, IfErr}
use Rattle.std.proofs.lemmas.Result.{IfErr-weaker}
use Rattle.svn_lists.proofs.Results.{IfOk_then}
use Rattle.svn_types.specs.Names.{Path}
use Rattle.svn_model.specs.declared.base_node.BaseNode.{BaseNode}
use Rattle.svn_model.specs.Nodes.{get_in}
use Rattle.svn_model.specs.Refusals.{nodes_fault}
use Rattle.svn_model.specs.declared.wc_fault.WcFault.{WcFault}
use Rattle.svn_wc.specs.Building.{Refuses}
use Rattle.svn_audit.specs.Below.{IsFaultOrMemory}
use Rattle.svn_audit.proofs.Belows.{get_below, root_below, is_fault}
use Rattle.svn_audit.proofs.below.copy_below.Goals as goal

pub returns-then-is_root-clause-nodes : goal.returns-then-is_root-clause-nodes
returns-then-is_root-clause-nodes c =
    let above = c.args.above.now in
    let nodes = c.args.nodes.items in
    IfOk_then (λ w. (p : Path) → get_in w p ≡ get_in nodes p) (λ w. (p : Path) → get_in w p ≡ get_in nodes (above ++ p))
    c.from_nodes.result c.from_nodes.ensures.nodes
    (λ w has p. has p ∙ ap (λ (a : Path). get_in nodes (a ++ p)) (sym (c.is_root.ensures.0 c.if-is_root.true)))

pub returns-then-is_root-clause-made : goal.returns-then-is_root-clause-made
returns-then-is_root-clause-made c =
    subst (λ (l : List (Path × BaseNode)). OnOk c.from_nodes.result (nodes_fault l ≡ None))
    (sym (root_below c.args.above.now c.args.nodes.items (c.is_root.ensures.0 c.if-is_root.true))) c.from_nodes.ensures.made

pub returns-then-is_root-clause-fault : goal.returns-then-is_root-clause-fault
returns-then-is_root-clause-fault c =
    let nodes = c.args.nodes.items in
    subst (λ (l : List (Path × BaseNode)). IfErr c.from_nodes.result (IsFaultOrMemory (nodes_fault l)))
    (sym (root_below c.args.above.now nodes (c.is_root.ensures.0 c.if-is_root.true)))
    (IfErr-weaker c.from_nodes.result (Refuses (nodes_fault nodes)) (IsFaultOrMemory (nodes_fault nodes)) (is_fault (nodes_fault nodes))
    c.from_nodes.ensures.fault)

pub returns-clause-nodes : goal.returns-clause-nodes
returns-clause-nodes c =
    let above = c.args.above.now in
    let nodes = c.args.nodes.items in
    let below : List (Path × BaseNode) = c.in_ok-nodes_below.field-0.items in
    IfOk_then (λ w. (p : Path) → get_in w p ≡ get_in below p) (λ w. (p : Path) → get_in w p ≡ get_in nodes (above ++ p))
    c.from_nodes-2.result c.from_nodes-2.ensures.nodes
    (λ w has p. has p ∙ ap (λ (l : List (Path × BaseNode)). get_in l p) c.in_ok-nodes_below.ensures ∙ get_below above nodes p)
