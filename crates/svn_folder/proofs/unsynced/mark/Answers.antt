use Rattle.svn_folder.proofs.Unsyncing.{put_in}
use Rattle.svn_folder.proofs.unsynced.mark.Goals as goal

pub returns-clause-added : goal.returns-clause-added
returns-clause-added c = λ q. put_in c.args.paths.now c.insert.new.self c.args.path.now _ q c.in_ok-clone.ensures.cases (c.in_ok-insert.ensures.updates.0 q)
