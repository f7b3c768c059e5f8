use Rattle.std.proofs.Common.{lit<}
use Rattle.svn_types.proofs.Splits.{name_split}
use Rattle.svn_types.proofs.rel_path.split_name.Goals as goal

pub returns : goal.returns
returns c = name_split c.args.text.now c.split_once.result (c.split_once.ensures.byte (lit< tt) (λ w o h. h))
