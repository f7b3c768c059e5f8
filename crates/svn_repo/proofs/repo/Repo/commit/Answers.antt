use Rattle.svn_repo.specs.Stored.{history_of}
use Rattle.svn_repo.specs.Changes.{latest_pending}
use Rattle.svn_repo.proofs.UnansweredFaults.{never_full, first_can_be_made, refused_so}
use Rattle.svn_repo.proofs.repo.Repo.commit.Goals as goal

pub returns-in-Err-clause-fault : goal.returns-in-Err-clause-fault
returns-in-Err-clause-fault c =
    let h = history_of c.self.inside.stored.roots c.self.inside.stored.nodes.items c.self.inside.lines in
    rw (← c.self.view_is) (refused_so h (latest_pending h) c.args.changes.now c.in-Err.fault c.in-Err.ensures.fault)

pub returns-in-Err-clause-memory : goal.returns-in-Err-clause-memory
returns-in-Err-clause-memory c =
    let h = history_of c.self.inside.stored.roots c.self.inside.stored.nodes.items c.self.inside.lines in
    rw (← c.self.view_is) (first_can_be_made h (latest_pending h) c.args.changes.now c.in-Err.fault c.in-Err.ensures.fault)

pub returns-in-Err-clause-never_full : goal.returns-in-Err-clause-never_full
returns-in-Err-clause-never_full c =
    let h = history_of c.self.inside.stored.roots c.self.inside.stored.nodes.items c.self.inside.lines in
    never_full h (latest_pending h) c.args.changes.now c.in-Err.fault c.in-Err.ensures.fault
