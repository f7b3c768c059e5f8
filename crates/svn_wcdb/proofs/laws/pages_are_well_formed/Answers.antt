use Rattle.svn_wcdb.proofs.PageTests.{tells_pages}
use Rattle.svn_wcdb.proofs.laws.pages_are_well_formed.Goals as goal

pub returns : goal.returns
returns c = tells_pages
