use Rattle.svn_wcdb.proofs.RecordTests.{tells_records}
use Rattle.svn_wcdb.proofs.laws.records_are_whole.Goals as goal

pub returns : goal.returns
returns c = tells_records
