-- Empty commits, one more.
use Rattle.std.proofs.Common.{◌≡◌, subst, ap, refl}
use Rattle.svn_repo.specs.History.{History}
use Rattle.svn_repo.specs.Changes.{Pending, IsRevision}
use Rattle.svn_repo.specs.Transactions.{OpenRevision, pending_of}
use Rattle.svn_history.specs.Steps.{Draft, draft_of, begun}
use Rattle.svn_history.specs.Loading.{EmptyCommits, one_commit}

pub one_empty : (h h' : History) (o : OpenRevision) → EmptyCommits h o.history → draft_of o ≡ begun o.history
    → IsRevision o.history h' (pending_of o) → EmptyCommits h h'
one_empty h h' o before start is =
    one_commit o.history before
    (refl, subst (λ (s : Pending). IsRevision o.history h' s) (ap (λ (d : Draft). d.pending) start) is)
