use Rattle.svn_folder.proofs.Unsyncing.{marked_if}
use Rattle.svn_folder.proofs.unsynced.Unsynced.mark_names.Goals as goal

pub returns-clause-marked : goal.returns-clause-marked
returns-clause-marked c = marked_if c.mark.result c.args.self.now.is_unknown c.args.self.now.directories c.mark.new.paths c.args.path.now c.mark.ensures.added
