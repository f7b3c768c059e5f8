use Rattle.law_wcdb.proofs.Tables.{trees_read}
use Rattle.law_wcdb.proofs.trees_are_read.Goals as goal

pub returns : goal.returns
returns c = trees_read
