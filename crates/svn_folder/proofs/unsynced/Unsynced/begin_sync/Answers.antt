use Rattle.svn_folder.specs.Marking.{marks_of}
use Rattle.svn_folder.proofs.Unsyncing.{directory_kept, directory_synced}
use Rattle.svn_folder.proofs.unsynced.Unsynced.begin_sync.Goals as goal

pub returns-then-branch : goal.returns-then-branch
returns-then-branch c = directory_kept (marks_of c.args.self.now) c.args.path.now

pub returns : goal.returns
returns c = directory_synced (marks_of c.args.self.now) c.args.path.now _ c.in_ok-clone.ensures.cases (c.in_ok-has_name.ensures c.if-branch.false)
