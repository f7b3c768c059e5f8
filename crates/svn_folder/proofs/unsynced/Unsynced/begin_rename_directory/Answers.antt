use Rattle.svn_folder.specs.Marking.{marks_of}
use Rattle.svn_folder.proofs.Unsyncing.{directory_moved, directory_lost}
use Rattle.svn_folder.proofs.unsynced.Unsynced.begin_rename_directory.Goals as goal

pub returns-then-is_nothing : goal.returns-then-is_nothing
returns-then-is_nothing c = directory_moved (marks_of c.args.self.now) c.args.from.now c.args.to.now (c.is_nothing.ensures.marks c.if-is_nothing.true)

pub returns-else-is_nothing : goal.returns-else-is_nothing
returns-else-is_nothing c = directory_lost (marks_of c.args.self.now) c.args.from.now c.args.to.now
