use Rattle.svn_folder.specs.Marking.{marks_of, without_files}
use Rattle.svn_folder.proofs.Unsyncing.{files_next}
use Rattle.svn_folder.proofs.unsynced.Unsynced.finish_files.Goals as goal

pub paths-preserved : goal.paths-preserved
paths-preserved c =
    files_next c.paths.rest.now c.in-Some.after.now c.in-Some.path.now (without_files c.args.paths.now (marks_of c.args.self.now)) (marks_of c.paths.self)
    (marks_of c.unmark_bytes.new.self) c.in-Some.ensures.cases.0 c.paths.invariant c.unmark_bytes.ensures
