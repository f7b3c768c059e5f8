use Rattle.std.proofs.Common.{◌≡◌, true, false, cond, List, None, sym, ap, subst, ◌∙◌, true≢false}
use Rattle.std.specs.Option.{option_map}
use Rattle.svn_types.specs.Names.{Path}
use Rattle.svn_types.specs.Paths.{path_eq, is_root, is_below}
use Rattle.svn_repo.specs.History.{new_history}
use Rattle.svn_model.specs.declared.base_node.BaseNode.{BaseNode}
use Rattle.svn_model.specs.declared.base_node.BaseNode.TheVariants.{NotPresent}
use Rattle.svn_model.specs.Nodes.{WorkingCopy, get_in, is_present, IsWorkingCopy, IsTrueOf}
use Rattle.svn_wc.specs.Unswitched.{IsUnswitched}
use Rattle.svn_wc.proofs.Unswitched.{forgotten_unswitched}
use Rattle.svn_wc.proofs.Forgetting.{absent_forgotten, not_root, may_forget}
use Rattle.svn_wc.proofs.working_copy.WorkingCopy.forget.Goals as goal

pub returns-clause-nodes : goal.returns-clause-nodes
returns-clause-nodes c = λ p.
    let at = c.args.path.now in
    let present : is_present (get_in c.args.self.now at) ≡ true =
    sym (ap (λ (l : List (Path × BaseNode)). is_present (get_in l at)) c.self.view_is) ∙ sym (ap is_present c.get.ensures.value)
    ∙ sym c.is_present.ensures ∙ c.if-not-is_present.false in
    c.remove_below.ensures p
    ∙ ap (cond (is_below at p) None) (c.make_absent.ensures p
    ∙ ap (λ (l : List (Path × BaseNode)). cond (path_eq at p) (option_map (λ (n : BaseNode). NotPresent) (get_in l at)) (get_in l p))
    c.self.view_is)
    ∙ absent_forgotten (get_in c.args.self.now) at p present

pub invariant_of-self : goal.invariant_of-self
invariant_of-self c =
    let at = c.args.path.now in
    let present : is_present (get_in c.args.self.now at) ≡ true =
    sym (ap (λ (l : List (Path × BaseNode)). is_present (get_in l at)) c.self.view_is) ∙ sym (ap is_present c.get.ensures.value)
    ∙ sym c.is_present.ensures ∙ c.if-not-is_present.false in
    let root : is_root at ≡ false = not_root at c.is_root.result c.is_root.ensures.1 c.if-is_root.false in
    let shape =
    (c.forgetting_keeps_a_copy.ensures new_history (get_in c.args.self.now) at
    (subst (λ (l : List (Path × BaseNode)). IsWorkingCopy (get_in l)) c.self.view_is c.self.invariant.0)
    (may_forget (get_in c.args.self.now) at root present)).shape in (
      subst IsWorkingCopy (λ i p. sym (returns-clause-nodes c p) i) shape,
      λ known. subst IsUnswitched (λ i p. sym (returns-clause-nodes c p) i)
          (forgotten_unswitched (get_in c.args.self.now) at
          (subst (λ (l : List (Path × BaseNode)). IsUnswitched (get_in l)) c.self.view_is (c.self.invariant.1 known)) shape),
      λ known. absurd (true≢false (sym known)),
    )

pub returns-clause-truth : goal.returns-clause-truth
returns-clause-truth c = λ h t.
    let at = c.args.path.now in
    let present : is_present (get_in c.args.self.now at) ≡ true =
    sym (ap (λ (l : List (Path × BaseNode)). is_present (get_in l at)) c.self.view_is) ∙ sym (ap is_present c.get.ensures.value)
    ∙ sym c.is_present.ensures ∙ c.if-not-is_present.false in
    let root : is_root at ≡ false = not_root at c.is_root.result c.is_root.ensures.1 c.if-is_root.false in
    subst (λ (w : WorkingCopy). IsTrueOf h w) (λ i p. sym (returns-clause-nodes c p) i)
    ((c.forgetting_keeps_a_copy.ensures h (get_in c.args.self.now) at
    (subst (λ (l : List (Path × BaseNode)). IsWorkingCopy (get_in l)) c.self.view_is c.self.invariant.0)
    (may_forget (get_in c.args.self.now) at root present)).true_of
    t)
