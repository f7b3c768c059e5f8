use Rattle.law_wcdb.proofs.Tables.{stored_trees}
use Rattle.law_wcdb.proofs.stored_tables_are_trees.Goals as goal

pub returns : goal.returns
returns c = stored_trees
