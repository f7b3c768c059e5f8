use Rattle.svn_folder.proofs.Unsyncing.{taken_out}
use Rattle.svn_folder.proofs.unsynced.unmark.Goals as goal

pub returns : goal.returns
returns c = λ q. taken_out c.args.paths.now c.remove.new.self c.args.path.now q (c.remove.ensures.updates.0 q)
