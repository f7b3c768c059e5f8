use Rattle.law_dump.proofs.GrammarDumps.{dump_given}
use Rattle.law_dump.proofs.dumps_of_the_grammar_are_read.Goals as goal

pub returns : goal.returns
returns c = dump_given
