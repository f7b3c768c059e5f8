use Rattle.std.proofs.Common.{◌≡◌, true, List, sym, subst, ◌∙◌, true≢false}
use Rattle.svn_types.specs.Names.{Path}
use Rattle.svn_model.specs.declared.base_node.BaseNode.{BaseNode}
use Rattle.svn_model.specs.Nodes.{WorkingCopy, get_in, IsWorkingCopy, IsTrueOf}
use Rattle.svn_model.specs.Builders.{placed}
use Rattle.svn_model.specs.Effects.{joined_path}
use Rattle.svn_wc.proofs.Placing.{may_place}
use Rattle.svn_wc.proofs.Unswitched.{placed_unswitched}
use Rattle.svn_wc.specs.Unswitched.{IsUnswitched, IsLevel}
use Rattle.svn_wc.proofs.working_copy.WorkingCopy.place.Goals as goal

pub returns-clause-nodes : goal.returns-clause-nodes
returns-clause-nodes c = λ p.
    c.in_ok-put.ensures.nodes p
    ∙ (λ i. placed c.args.repo.now (get_in (c.self.view_is i)) c.args.path.now (c.in_ok-repos_path.ensures.path i) c.args.rev p)

-- where it was refused
pub invariant_of-self : goal.invariant_of-self
invariant_of-self c =
    subst
    (λ (l : List (Path × BaseNode)). IsWorkingCopy (get_in l) × (c.self.inside.known.unswitched ≡ true → IsUnswitched (get_in l))
    × (c.self.inside.known.level ≡ true → IsLevel (get_in l))) (sym c.in_err-put.ensures.unchanged) c.self.invariant

pub invariant_of-self-2 : goal.invariant_of-self-2
invariant_of-self-2 c =
    let nodes : (p : Path) → get_in c.put.new.nodes.entries p
    ≡ placed c.args.repo.now (get_in c.args.self.now) c.args.path.now (joined_path (get_in c.args.self.now) c.args.path.now) c.args.rev p =
    λ p. c.in_ok-put.ensures.nodes p
    ∙ (λ i. placed c.args.repo.now (get_in (c.self.view_is i)) c.args.path.now (c.in_ok-repos_path.ensures.path i) c.args.rev p) in
    let h = c.args.repo.now in
    let w = get_in c.args.self.now in
    let may = may_place h w c.args.path.now c.args.rev c.in_ok-repos_path.ensures.made in (
      subst IsWorkingCopy (λ i p. sym (nodes p) i)
          (c.placing_keeps_a_copy.ensures h w c.args.path.now c.args.rev c.law.ensures.history c.law-2.ensures.shape
          c.last_name_allowed.ensures c.in_ok-repos_path.ensures.made).shape,
      λ known. subst IsUnswitched (λ i p. sym (nodes p) i)
          (placed_unswitched h w c.args.path.now c.args.rev
          (subst (λ (l : List (Path × BaseNode)). IsUnswitched (get_in l)) c.self.view_is (c.self.invariant.1 known)) c.law-2.ensures.shape
          may.0 may.1),
      λ known. absurd (true≢false (sym known)),
    )

pub returns-clause-truth : goal.returns-clause-truth
returns-clause-truth c = λ t.
    let h = c.args.repo.now in
    subst (λ (v : WorkingCopy). IsTrueOf h v) (λ i p. sym (returns-clause-nodes c p) i)
    ((c.placing_keeps_a_copy.ensures h (get_in c.args.self.now) c.args.path.now c.args.rev c.law.ensures.history c.law-2.ensures.shape
    c.last_name_allowed.ensures c.in_ok-repos_path.ensures.made).true_of
    t)
