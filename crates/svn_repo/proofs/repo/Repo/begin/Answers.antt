use Rattle.svn_repo.proofs.Transactions.{is_begun, is_begun_open}
use Rattle.svn_repo.proofs.repo.Repo.begin.Goals as goal

pub invariant_of-result : goal.invariant_of-result
invariant_of-result c =
    let draft = c.start_draft-draft.ensures in
    rw draft.lines (is_begun_open _ _ _ _ _ c.self.invariant draft.root _ draft.base)

pub returns : goal.returns
returns c =
    let draft = c.start_draft-draft.ensures in
    rw (← c.self.view_is, draft.lines) (is_begun _ _ _ _ _ c.self.invariant draft.root _ draft.base)
