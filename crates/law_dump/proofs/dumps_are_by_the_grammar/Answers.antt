use Rattle.law_dump.proofs.GrammarDumps.{dump_found}
use Rattle.law_dump.proofs.dumps_are_by_the_grammar.Goals as goal

pub returns : goal.returns
returns c = dump_found
