use Rattle.std.proofs.Common.{rules, ◌≡◌, ◌∷◌, ◌++◌, [], List, Some, None, sym, ap, subst, ◌∙◌}
use Rattle.std.specs.Option.{option_to_list}
use Rattle.std.proofs.lemmas.List.{append-nil}
use Rattle.svn_types.specs.Names.{Path}
use Rattle.svn_model.specs.declared.base_node.BaseNode.{BaseNode}
use Rattle.svn_model.specs.Nodes.{get_in}
use Rattle.svn_audit.specs.declared.reason.Untrue.{Untrue}
use Rattle.svn_audit.specs.Sparse.{untrue_at_but}
use Rattle.svn_audit.proofs.SparseTruths.{Audited, audit_on, audit_ends, none_is_true, true_has_none}
use Rattle.svn_audit.proofs.sparse.untrue_paths_but.Goals as goal

pub nodes-preserved-in-Continue-branch-3 : goal.nodes-preserved-in-Continue-branch-3
nodes-preserved-in-Continue-branch-3 g c =
    let may = g.L.MayLack.lackable c.args.lackable.now in
    let h = c.args.repo.now in
    let nodes = c.args.copy.now in
    let e : Path × BaseNode = (c.in-Some.path.now, c.in-Some.node.now) in
    let left : List (Path × BaseNode) = c.advance.new.self in
    let step : c.nodes.left ≡ e ∷ left = c.in-Some.ensures ∙ ap (λ (l : List (Path × BaseNode)). e ∷ l) (sym c.advance.ensures) in
    let s = subst (λ (l : List (Path × BaseNode)). Audited may h nodes l c.nodes.found.items) step c.nodes.invariant in
    let here : untrue_at_but may h (get_in nodes) e.0 e.1 ≡ Some c.in-Some-2.untrue = sym c.in_ok-untrue.ensures ∙ c.in-Some-2.is in
    let pushed : c.push.new.self.items ≡ c.nodes.found.items ++ c.in-Some-2.untrue ∷ [] = search rules in
    subst (λ (us : List Untrue). Audited may h nodes left us) (ap (λ o. c.nodes.found.items ++ option_to_list o) here ∙ sym pushed)
    (audit_on may h nodes e left c.nodes.found.items s c.is_ordered.ensures)

pub nodes-preserved : goal.nodes-preserved
nodes-preserved g c =
    let may = g.L.MayLack.lackable c.args.lackable.now in
    let h = c.args.repo.now in
    let nodes = c.args.copy.now in
    let e : Path × BaseNode = (c.in-Some.path.now, c.in-Some.node.now) in
    let left : List (Path × BaseNode) = c.advance.new.self in
    let step : c.nodes.left ≡ e ∷ left = c.in-Some.ensures ∙ ap (λ (l : List (Path × BaseNode)). e ∷ l) (sym c.advance.ensures) in
    let s = subst (λ (l : List (Path × BaseNode)). Audited may h nodes l c.nodes.found.items) step c.nodes.invariant in
    let here : untrue_at_but may h (get_in nodes) e.0 e.1 ≡ None = sym c.in_ok-untrue.ensures ∙ c.in_default-2.is in
    subst (λ (us : List Untrue). Audited may h nodes left us)
    (ap (λ o. c.nodes.found.items ++ option_to_list o) here ∙ append-nil c.nodes.found.items)
    (audit_on may h nodes e left c.nodes.found.items s c.is_ordered.ensures)

pub returns-clause-untrue : goal.returns-clause-untrue
returns-clause-untrue g c =
    audit_ends (g.L.MayLack.lackable c.args.lackable.now) c.args.repo.now c.args.copy.now c.nodes.left c.nodes.found.items c.nodes.invariant
    c.in_default.ensures

pub returns-clause-is_true : goal.returns-clause-is_true
returns-clause-is_true g c = λ empty.
    none_is_true (g.L.MayLack.lackable c.args.lackable.now) c.args.repo.now c.args.copy.now c.law.ensures.history c.nodes.left c.nodes.found.items
    c.nodes.invariant c.in_default.ensures empty

pub returns-clause-true_is_empty : goal.returns-clause-true_is_empty
returns-clause-true_is_empty g c = λ holds.
    true_has_none (g.L.MayLack.lackable c.args.lackable.now) c.args.repo.now c.args.copy.now c.law-2.ensures.order c.nodes.left c.nodes.found.items
    c.nodes.invariant c.in_default.ensures holds
