use Rattle.svn_folder.proofs.Listed.{name_in}
use Rattle.svn_folder.proofs.listing.add_name.Goals as goal

pub returns : goal.returns
returns c = λ n. name_in c.args.names.now c.insert.new.self c.args.name n (c.in_ok-insert.ensures.updates.0 n)
