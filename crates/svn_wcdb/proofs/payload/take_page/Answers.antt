use Rattle.svn_wcdb.proofs.ChainLemmas.{take_none, take_one}
use Rattle.svn_wcdb.proofs.payload.take_page.Goals as goal

pub returns-then-spare-eq0-clause-taken : goal.returns-then-spare-eq0-clause-taken
returns-then-spare-eq0-clause-taken c = take_none _ _ c.if-spare-eq0.true

pub returns-else-spare-eq0-clause-taken : goal.returns-else-spare-eq0-clause-taken
returns-else-spare-eq0-clause-taken c = take_one _ _ c.if-spare-eq0.false
