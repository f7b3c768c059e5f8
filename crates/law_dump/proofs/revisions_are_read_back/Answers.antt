use Rattle.law_dump.proofs.DumpReads.{revision_read}
use Rattle.law_dump.proofs.revisions_are_read_back.Goals as goal

pub returns : goal.returns
returns c = revision_read
