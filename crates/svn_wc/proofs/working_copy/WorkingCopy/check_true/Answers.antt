use Rattle.std.proofs.Common.{◌≡◌, ◌∷◌, List, Option, None, sym, ap, subst, ◌∙◌, true≢false}
use Rattle.std.specs.Option.{option_copied, option_or, is_some}
use Rattle.svn_lists.proofs.Options.{option_or-copied}
use Rattle.svn_types.specs.Names.{Path}
use Rattle.svn_model.specs.declared.base_node.BaseNode.{BaseNode}
use Rattle.svn_model.specs.Nodes.{InPathOrder}
use Rattle.svn_model.specs.Truth.{first_untrue}
use Rattle.svn_wc.proofs.Truly.{Checked, check_on, check_ends}
use Rattle.svn_wc.proofs.working_copy.WorkingCopy.check_true.Goals as goal

pub nodes-preserved : goal.nodes-preserved
nodes-preserved c =
    let h = c.args.repo.now in
    let nodes = c.args.self.now in
    let e : Path × BaseNode = (c.in-Some.path.now, c.in-Some.node.now) in
    let step : c.nodes.left ≡ e ∷ c.advance.new.self =
    c.in-Some.ensures ∙ ap (λ (l : List (Path × BaseNode)). e ∷ l) (sym c.advance.ensures) in
    let s = subst (λ (l : List (Path × BaseNode)). Checked h nodes l (option_copied c.nodes.first)) step c.nodes.invariant in
    let order = subst InPathOrder c.self.view_is c.of-left.ensures.ordered in
    let walked = c.first_untrue_within-untrue.ensures.walked nodes s.done order c.law.ensures.shape s.parts c.look_up-id.ensures in
    let first : option_or (option_copied c.nodes.first) (option_copied c.first_untrue_within-untrue.result)
    ≡ option_copied c.or-first.result =
    sym (ap option_copied c.or-first.ensures ∙ option_or-copied c.nodes.first c.first_untrue_within-untrue.result) in
    subst (λ (f : Option Path). Checked h nodes c.first_untrue_within-untrue.new.left f) first
    (check_on h nodes e c.advance.new.self (option_copied c.nodes.first) s c.first_untrue_within-untrue.new.left
    (option_copied c.first_untrue_within-untrue.result) walked)

pub returns-in-Some-first-clause-true_is_ok : goal.returns-in-Some-first-clause-true_is_ok
returns-in-Some-first-clause-true_is_ok c = λ holds.
    let h = c.args.repo.now in
    let nodes = c.args.self.now in
    let order = subst InPathOrder c.self.view_is c.of-left.ensures.ordered in
    let first = check_ends h nodes c.nodes.left (option_copied c.nodes.first) c.nodes.invariant c.in_default.ensures in
    let none : first_untrue h nodes ≡ None = (c.truth_is_tested.ensures h nodes order).1 holds in
    absurd (true≢false (sym (ap (λ o. is_some (option_copied o)) c.in-Some-first.is) ∙ ap is_some (first ∙ none)))

pub returns-in-None-clause-is_true : goal.returns-in-None-clause-is_true
returns-in-None-clause-is_true c =
    let h = c.args.repo.now in
    let nodes = c.args.self.now in
    let order = subst InPathOrder c.self.view_is c.of-left.ensures.ordered in
    let first = check_ends h nodes c.nodes.left (option_copied c.nodes.first) c.nodes.invariant c.in_default.ensures in
    (c.truth_is_tested.ensures h nodes order).0 (sym first ∙ ap option_copied c.in-None.is)
