use Rattle.law_dump.proofs.GrammarWritten.{dump_written}
use Rattle.law_dump.proofs.dumps_are_written_by_the_grammar.Goals as goal

pub returns : goal.returns
returns c = dump_written
