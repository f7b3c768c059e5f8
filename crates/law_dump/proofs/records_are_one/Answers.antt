use Rattle.law_dump.proofs.GrammarReads.{one_record}
use Rattle.law_dump.proofs.records_are_one.Goals as goal

pub returns : goal.returns
returns c = one_record
