use Rattle.std.proofs.Common.{◌≡◌, ℕ, true, Some, subst}
use Rattle.svn_history.specs.Made.{root_of, IsFirstFrom}
use Rattle.svn_history.proofs.MadeIn.{made_inside}
use Rattle.svn_history.proofs.made.made_in.Goals as goal

pub returns : goal.returns
returns c =
    let h = c.args.repo.now in
    let from = c.first_from-from in
    made_inside h c.args.node from.result c.first_like-2.result from.ensures.below from.ensures.from
    (λ is. let root : c.is_root.result ≡ true = c.is_root.ensures.1 is in cc)
    (subst (λ (r : ℕ). (root : ℕ) → root_of h r ≡ Some root → IsFirstFrom h root c.first_like-2.result) c.saturating_sub.ensures c.first_like-2.ensures)
