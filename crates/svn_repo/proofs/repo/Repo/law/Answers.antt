use Rattle.svn_repo.proofs.Soundness.{is_history, nodes_exist}
use Rattle.svn_repo.proofs.repo.Repo.law.Goals as goal

pub returns-clause-history : goal.returns-clause-history
returns-clause-history c = rw (← c.self.view_is) (is_history _ c.self.invariant.repository)

pub returns-clause-nodes : goal.returns-clause-nodes
returns-clause-nodes c = rw (← c.self.view_is) (nodes_exist _ c.self.invariant.repository)
