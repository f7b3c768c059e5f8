use Rattle.svn_update.proofs.TruthLemmas.{commits_true}
use Rattle.svn_update.proofs.state.State.commit.Goals as goal

pub invariant_of-self : goal.invariant_of-self
invariant_of-self c =
    commits_true c.self.inside.repo c.commit-committed.new.self c.deref.result.now c.self.inside.copy c.commit-committed.result
    c.commits_keep_copies_true.ensures c.law.ensures.nodes c.commit-committed.ensures.ok c.commit-committed.ensures.unchanged
    c.self.invariant
