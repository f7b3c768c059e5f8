use Rattle.svn_folder.specs.Marking.{marks_of, without}
use Rattle.svn_folder.proofs.Unsyncing.{within_chain}
use Rattle.svn_folder.proofs.Taking.{marks_kept, marks_taken, marks_refused}
use Rattle.svn_folder.proofs.synced.SyncedFolderFolder.take.Goals as goal

pub invariant_of-self : goal.invariant_of-self
invariant_of-self g c = record {
  marks = marks_kept (g.F.Folder.past c.args.self.now.folder) (marks_of c.args.self.now.unsynced) (marks_of c.begin.new.self) c.begin.ensures.more
      c.args.self.now.marks;
}

pub invariant_of-self-in-Ok : goal.invariant_of-self-in-Ok
invariant_of-self-in-Ok g c = record {
  marks = marks_taken c.args.step (g.F.Folder.past c.args.self.now.folder) (g.F.Folder.past c.take.new.self) (marks_of c.args.self.now.unsynced)
      (without c.in_ok-done.done (marks_of c.begin.new.self)) (marks_of c.finish.new.self) c.in_ok-done.ensures.enough c.finish.ensures c.in-Ok.ensures
      c.args.self.now.marks;
}

pub invariant_of-self-in-Err : goal.invariant_of-self-in-Err
invariant_of-self-in-Err g c = record {
  marks = marks_refused c.args.step (g.F.Folder.past c.args.self.now.folder) (g.F.Folder.past c.take.new.self) c.in-Err.fault
      (marks_of c.args.self.now.unsynced) (marks_of c.give_up.new.self)
      (within_chain (marks_of c.args.self.now.unsynced) (marks_of c.begin.new.self) (marks_of c.give_up.new.self) c.begin.ensures.more c.give_up.ensures)
      c.in-Err.ensures c.args.self.now.marks;
}
