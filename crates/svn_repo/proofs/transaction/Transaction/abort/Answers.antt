use Rattle.svn_repo.proofs.Transactions.{is_aborted, is_aborted_open}
use Rattle.svn_repo.proofs.transaction.Transaction.abort.Goals as goal

pub invariant_of-self : goal.invariant_of-self
invariant_of-self c =
    let told = c.give_up-self-inside.ensures in
    rw (told.roots, told.heights, told.lines)
    (is_aborted_open _ _ _ _ _ _ _ c.self.invariant _ told.nodes _ _ told.base told.root)

pub returns : goal.returns
returns c =
    let told = c.give_up-self-inside.ensures in
    rw (← c.self.view_is, told.roots, told.lines)
    (is_aborted _ _ _ _ _ _ _ c.self.invariant _ told.nodes _ _ told.base told.root)
