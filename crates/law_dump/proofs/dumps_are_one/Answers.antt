use Rattle.law_dump.proofs.GrammarDumps.{one_dump}
use Rattle.law_dump.proofs.dumps_are_one.Goals as goal

pub returns : goal.returns
returns c = one_dump
