use Rattle.svn_types.proofs.PathKeys.{stripped}
use Rattle.svn_types.proofs.rel_path.behind.Goals as goal

pub returns : goal.returns
returns c = stripped c.args.text.now c.args.front.now c.strip_prefix.result c.strip_prefix.ensures.cases
