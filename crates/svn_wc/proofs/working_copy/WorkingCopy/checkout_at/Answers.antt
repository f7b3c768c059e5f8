use Rattle.std.proofs.Common.{◌≡◌, ◌++◌, sym, ap, subst, ◌∙◌}
use Rattle.svn_types.specs.Names.{Path}
use Rattle.svn_repo.specs.History.{look}
use Rattle.svn_model.specs.Nodes.{WorkingCopy, get_in, IsWorkingCopy, IsTrueOf}
use Rattle.svn_model.specs.Builders.{checkout}
use Rattle.svn_wc.specs.Building.{tree_at}
use Rattle.svn_wc.specs.Unswitched.{IsUnswitched, IsLevel}
use Rattle.svn_wc.proofs.Level.{made_level}
use Rattle.svn_wc.proofs.Unswitched.{checkout_unswitched}
use Rattle.svn_wc.proofs.working_copy.WorkingCopy.checkout_at.Goals as goal

pub invariant_of-result : goal.invariant_of-result
invariant_of-result c =
    let nodes : (p : Path) → get_in c.in_ok-nodes.nodes.entries p ≡ checkout c.args.repo.now c.args.root.now c.args.rev p =
    λ p. c.in_ok-nodes.ensures p ∙ ap (λ (at : Path). tree_at c.args.repo.now at c.args.root.now c.args.rev p) c.root.ensures in
    let shape =
    (c.a_checkout_is_a_true_copy.ensures c.args.repo.now c.args.root.now c.args.rev c.law.ensures.history c.in_ok-id.ensures.made).0 in (
      subst IsWorkingCopy (λ i p. sym (nodes p) i) shape,
      λ known. subst IsUnswitched (λ i p. sym (nodes p) i) (checkout_unswitched c.args.repo.now c.args.root.now c.args.rev shape),
      λ known. subst IsLevel (λ i p. sym (nodes p) i)
          (made_level c.args.repo.now c.args.rev (λ p. c.args.root.now ++ p) (λ p. look c.args.repo.now c.args.rev (c.args.root.now ++ p))),
    )

pub returns-clause-truth : goal.returns-clause-truth
returns-clause-truth c =
    let nodes : (p : Path) → get_in c.in_ok-nodes.nodes.entries p ≡ checkout c.args.repo.now c.args.root.now c.args.rev p =
    λ p. c.in_ok-nodes.ensures p ∙ ap (λ (at : Path). tree_at c.args.repo.now at c.args.root.now c.args.rev p) c.root.ensures in
    subst (λ (w : WorkingCopy). IsTrueOf c.args.repo.now w) (λ i p. sym (nodes p) i)
    (c.a_checkout_is_a_true_copy.ensures c.args.repo.now c.args.root.now c.args.rev c.law.ensures.history c.in_ok-id.ensures.made).1
