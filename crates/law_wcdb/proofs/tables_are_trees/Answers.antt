use Rattle.law_wcdb.proofs.Tables.{tables_read}
use Rattle.law_wcdb.proofs.tables_are_trees.Goals as goal

pub returns : goal.returns
returns c = tables_read
