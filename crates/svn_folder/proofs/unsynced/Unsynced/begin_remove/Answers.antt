use Rattle.svn_folder.specs.Marking.{marks_of}
use Rattle.svn_folder.proofs.Unsyncing.{removed_file}
use Rattle.svn_folder.proofs.unsynced.Unsynced.begin_remove.Goals as goal

pub returns-clause-enough : goal.returns-clause-enough
returns-clause-enough c =
    removed_file (marks_of c.args.self.now) (marks_of c.mark_name.new.self) c.in_ok-mark_name.ensures.more c.args.path.now _ c.in_ok-clone.ensures.cases
    c.in_ok-mark_name.ensures.marked
