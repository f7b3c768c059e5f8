use Rattle.svn_report.proofs.Listings.{taken_out}
use Rattle.svn_report.proofs.path_index.remove_path.Goals as goal

pub returns : goal.returns
returns c = λ q. taken_out c.args.paths.now c.remove.new.self c.args.path.now q (c.remove.ensures.updates.0 q)
