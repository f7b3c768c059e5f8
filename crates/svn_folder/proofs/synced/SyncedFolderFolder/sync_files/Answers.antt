use Rattle.svn_folder.specs.Marking.{marks_of, without_files}
use Rattle.svn_folder.proofs.Taking.{marks_kept, marks_synced, marks_unsynced}
use Rattle.svn_folder.proofs.synced.SyncedFolderFolder.sync_files.Goals as goal

pub invariant_of-self : goal.invariant_of-self
invariant_of-self g c =
    let past = g.F.Folder.past c.sync_files.new.self in
    let old = marks_of c.args.self.now.unsynced in
    record {
      marks = marks_kept past (without_files c.args.paths.now old) (marks_of c.finish_files.new.self) c.finish_files.ensures
          (marks_synced c.args.paths.now (g.F.Folder.past c.args.self.now.folder) past old c.in-Ok.ensures c.args.self.now.marks);
    }

pub invariant_of-self-in-Err : goal.invariant_of-self-in-Err
invariant_of-self-in-Err g c =
    let past = g.F.Folder.past c.sync_files.new.self in
    let old = marks_of c.args.self.now.unsynced in
    record {
      marks = marks_kept past old (marks_of c.give_up.new.self) c.give_up.ensures
          (marks_unsynced c.args.paths.now (g.F.Folder.past c.args.self.now.folder) past c.in-Err.fault old c.in-Err.ensures c.args.self.now.marks);
    }
