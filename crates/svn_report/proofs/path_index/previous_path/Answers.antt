use Rattle.svn_report.proofs.Listings.{previous_is}
use Rattle.svn_report.proofs.path_index.previous_path.Goals as goal

pub returns-in_default : goal.returns-in_default
returns-in_default c = previous_is c.args.paths.now c.args.path.now _ _ c.next_back.result
    (c.range-before.ensures.in_range tt) c.next_back.ensures.steps
