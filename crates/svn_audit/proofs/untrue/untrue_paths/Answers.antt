use Rattle.std.proofs.Common.{rules, ◌≡◌, ◌∷◌, ◌++◌, [], List, Some, None, sym, ap, subst, ◌∙◌}
use Rattle.std.specs.Option.{option_to_list}
use Rattle.std.proofs.lemmas.List.{append-nil}
use Rattle.svn_types.specs.Names.{Path}
use Rattle.svn_model.specs.declared.base_node.BaseNode.{BaseNode}
use Rattle.svn_model.specs.Nodes.{get_in}
use Rattle.svn_audit.specs.declared.reason.Untrue.{Untrue}
use Rattle.svn_audit.specs.Untrue.{untrue_at}
use Rattle.svn_audit.proofs.Reasons.{reason_some, ordered_there}
use Rattle.svn_audit.proofs.Audits.{Audited, audit_on, audit_ends, none_found, none_first}
use Rattle.svn_audit.proofs.untrue.untrue_paths.Goals as goal

pub nodes-preserved-in-Continue-branch-3 : goal.nodes-preserved-in-Continue-branch-3
nodes-preserved-in-Continue-branch-3 c =
    let h = c.args.repo.now in
    let nodes = c.args.copy.now in
    let e : Path × BaseNode = (c.in-Some.path.now, c.in-Some.node.now) in
    let left : List (Path × BaseNode) = c.advance.new.self in
    let step : c.nodes.left ≡ e ∷ left = c.in-Some.ensures ∙ ap (λ (l : List (Path × BaseNode)). e ∷ l) (sym c.advance.ensures) in
    let s = subst (λ (l : List (Path × BaseNode)). Audited h nodes l c.nodes.found.items) step c.nodes.invariant in
    let tested = reason_some h (get_in nodes) e.0 e.1 c.is_ordered.ensures (ordered_there h c.law.ensures.history e.1) in
    let here : untrue_at h (get_in nodes) e.0 e.1 ≡ Some c.in-Some-2.untrue = sym c.in_ok-untrue.ensures ∙ c.in-Some-2.is in
    let pushed : c.push.new.self.items ≡ c.nodes.found.items ++ c.in-Some-2.untrue ∷ [] = search rules in
    subst (λ (us : List Untrue). Audited h nodes left us) (ap (λ o. c.nodes.found.items ++ option_to_list o) here ∙ sym pushed)
    (audit_on h nodes e left c.nodes.found.items s tested)

pub nodes-preserved : goal.nodes-preserved
nodes-preserved c =
    let h = c.args.repo.now in
    let nodes = c.args.copy.now in
    let e : Path × BaseNode = (c.in-Some.path.now, c.in-Some.node.now) in
    let left : List (Path × BaseNode) = c.advance.new.self in
    let step : c.nodes.left ≡ e ∷ left = c.in-Some.ensures ∙ ap (λ (l : List (Path × BaseNode)). e ∷ l) (sym c.advance.ensures) in
    let s = subst (λ (l : List (Path × BaseNode)). Audited h nodes l c.nodes.found.items) step c.nodes.invariant in
    let tested = reason_some h (get_in nodes) e.0 e.1 c.is_ordered.ensures (ordered_there h c.law.ensures.history e.1) in
    let here : untrue_at h (get_in nodes) e.0 e.1 ≡ None = sym c.in_ok-untrue.ensures ∙ c.in_default-2.is in
    subst (λ (us : List Untrue). Audited h nodes left us)
    (ap (λ o. c.nodes.found.items ++ option_to_list o) here ∙ append-nil c.nodes.found.items)
    (audit_on h nodes e left c.nodes.found.items s tested)

pub returns-clause-untrue : goal.returns-clause-untrue
returns-clause-untrue c =
    audit_ends c.args.repo.now c.args.copy.now c.nodes.left c.nodes.found.items c.nodes.invariant c.in_default.ensures

pub returns-clause-is_true : goal.returns-clause-is_true
returns-clause-is_true c = λ empty.
    (c.truth_is_tested.ensures c.args.repo.now c.args.copy.now c.law-2.ensures.order).0
    (none_found c.args.repo.now c.args.copy.now c.nodes.left c.nodes.found.items c.nodes.invariant c.in_default.ensures empty)

pub returns-clause-true_is_empty : goal.returns-clause-true_is_empty
returns-clause-true_is_empty c = λ holds.
    none_first c.args.repo.now c.args.copy.now c.nodes.left c.nodes.found.items c.nodes.invariant c.in_default.ensures
    ((c.truth_is_tested.ensures c.args.repo.now c.args.copy.now c.law-2.ensures.order).1 holds)
