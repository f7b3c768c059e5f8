use Rattle.svn_folder.specs.Marking.{marks_of}
use Rattle.svn_folder.specs.declared.step.Step.TheVariants.{Make}
use Rattle.svn_folder.specs.declared.entry.Entry.TheVariants.{File}
use Rattle.svn_folder.proofs.Unsyncing.{within_chain, within_itself}
use Rattle.svn_folder.proofs.Taking.{marks_kept, marks_taken, marks_refused}
use Rattle.svn_folder.proofs.synced.SyncedFolderFolder.make_file.Goals as goal

pub invariant_of-self : goal.invariant_of-self
invariant_of-self g c = record {
  marks = marks_kept (g.F.Folder.past c.args.self.now.folder) (marks_of c.args.self.now.unsynced) (marks_of c.begin_file.new.self) c.begin_file.ensures.more
      c.args.self.now.marks;
}

pub invariant_of-self-in-Ok : goal.invariant_of-self-in-Ok
invariant_of-self-in-Ok g c =
    let made = c.in-Ok.ensures.made in
    let new = marks_of c.begin_file.new.self in
    record {
      marks = marks_taken (Make c.args.path.now (File made.bytes c.args.mode) c.args.modified) (g.F.Folder.past c.args.self.now.folder)
          (g.F.Folder.past c.make_file.new.self) (marks_of c.args.self.now.unsynced) new new
          (c.in_ok-begin_file.ensures.enough made.bytes c.args.mode c.args.modified) (within_itself new) made.takes c.args.self.now.marks;
    }

pub invariant_of-self-in-Err : goal.invariant_of-self-in-Err
invariant_of-self-in-Err g c =
    let made = c.in-Err.ensures.made in
    let old = marks_of c.args.self.now.unsynced in
    let new = marks_of c.give_up.new.self in
    record {
      marks = marks_refused (Make c.args.path.now (File made.bytes c.args.mode) c.args.modified) (g.F.Folder.past c.args.self.now.folder)
          (g.F.Folder.past c.make_file.new.self) c.in-Err.fault old new
          (within_chain old (marks_of c.begin_file.new.self) new c.begin_file.ensures.more c.give_up.ensures) made.takes c.args.self.now.marks;
    }
