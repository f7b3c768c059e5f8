use Rattle.std.proofs.Common.{◌≡◌, true, List, sym, subst, ◌∙◌, true≢false}
use Rattle.svn_types.specs.Names.{Path}
use Rattle.svn_model.specs.declared.base_node.BaseNode.{BaseNode}
use Rattle.svn_model.specs.Nodes.{WorkingCopy, get_in, IsWorkingCopy, IsTrueOf}
use Rattle.svn_model.specs.Builders.{placed}
use Rattle.svn_wc.specs.Unswitched.{IsUnswitched, IsLevel}
use Rattle.svn_wc.proofs.working_copy.WorkingCopy.switch.Goals as goal

pub returns-clause-nodes : goal.returns-clause-nodes
returns-clause-nodes c = λ p.
    c.in_ok-put.ensures.nodes p
    ∙ (λ i. placed c.args.repo.now (get_in (c.self.view_is i)) c.args.path.now c.args.repos_path.now c.args.rev p)

-- where it was refused
pub invariant_of-self : goal.invariant_of-self
invariant_of-self c =
    subst
    (λ (l : List (Path × BaseNode)). IsWorkingCopy (get_in l) × (c.self.inside.known.unswitched ≡ true → IsUnswitched (get_in l))
    × (c.self.inside.known.level ≡ true → IsLevel (get_in l))) (sym c.in_err-put.ensures.unchanged) c.self.invariant

pub invariant_of-self-2 : goal.invariant_of-self-2
invariant_of-self-2 c =
    let nodes : (p : Path) → get_in c.put.new.nodes.entries p
    ≡ placed c.args.repo.now (get_in c.args.self.now) c.args.path.now c.args.repos_path.now c.args.rev p =
    λ p. c.in_ok-put.ensures.nodes p
    ∙ (λ i. placed c.args.repo.now (get_in (c.self.view_is i)) c.args.path.now c.args.repos_path.now c.args.rev p) in (
      subst IsWorkingCopy (λ i p. sym (nodes p) i)
          (c.switching_keeps_a_copy.ensures c.args.repo.now (get_in c.args.self.now) c.args.path.now c.args.repos_path.now c.args.rev
          c.law.ensures.history c.law-2.ensures.shape c.last_name_allowed.ensures c.in_ok-id.ensures.made).shape,
      λ known. absurd (true≢false (sym known ∙ c.nothing-self-inside.ensures.unswitched)),
      λ known. absurd (true≢false (sym known ∙ c.nothing-self-inside.ensures.level)),
    )

pub returns-clause-truth : goal.returns-clause-truth
returns-clause-truth c = λ t.
    subst (λ (v : WorkingCopy). IsTrueOf c.args.repo.now v) (λ i p. sym (returns-clause-nodes c p) i)
    ((c.switching_keeps_a_copy.ensures c.args.repo.now (get_in c.args.self.now) c.args.path.now c.args.repos_path.now c.args.rev
    c.law.ensures.history c.law-2.ensures.shape c.last_name_allowed.ensures c.in_ok-id.ensures.made).true_of
    t)
