use Rattle.law_dump.proofs.GrammarReads.{record_given}
use Rattle.law_dump.proofs.records_of_the_grammar_are_read.Goals as goal

pub returns : goal.returns
returns c = record_given
