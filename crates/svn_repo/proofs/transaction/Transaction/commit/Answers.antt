use Rattle.std.proofs.Common.{◌≡◌, length, rules}
use Rattle.svn_repo.proofs.Transactions.{is_next, is_next_open, is_ordered, next_revision, old_heights}
use Rattle.svn_repo.proofs.transaction.Transaction.commit.Goals as goal

pub push_root-requires-clause-ordered : goal.push_root-requires-clause-ordered
push_root-requires-clause-ordered c = is_ordered _ _ _ _ _ _ _ c.self.invariant

pub push_root-requires-clause-known : goal.push_root-requires-clause-known
push_root-requires-clause-known c = old_heights _ _ _ _ _ _ _ c.self.invariant

pub invariant_of-self : goal.invariant_of-self
invariant_of-self c =
    let size : c.len-base.result ≡ length c.self.inside.stored.nodes.items = search rules in
    rw c.push_root.ensures.nodes_kept
    (is_next_open _ _ _ _ _ _ _ c.self.invariant _ _ c.in-Ok.ensures.roots c.in-Ok.ensures.heights _ size)

pub returns-in-Ok-clause-revision : goal.returns-in-Ok-clause-revision
returns-in-Ok-clause-revision c =
    let size : c.len-base.result ≡ length c.self.inside.stored.nodes.items = search rules in
    rw (← c.self.view_is, c.push_root.ensures.nodes_kept)
    (next_revision _ _ _ _ _ _ _ c.self.invariant _ _ c.in-Ok.ensures.roots c.in-Ok.ensures.heights _ size)

pub returns-in-Ok-clause-begun : goal.returns-in-Ok-clause-begun
returns-in-Ok-clause-begun c =
    let size : c.len-base.result ≡ length c.self.inside.stored.nodes.items = search rules in
    rw c.push_root.ensures.nodes_kept
    (is_next _ _ _ _ _ _ _ c.self.invariant _ _ c.in-Ok.ensures.roots c.in-Ok.ensures.heights _ size)
