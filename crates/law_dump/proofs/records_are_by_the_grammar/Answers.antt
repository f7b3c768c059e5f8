use Rattle.law_dump.proofs.GrammarRecords.{record_found}
use Rattle.law_dump.proofs.records_are_by_the_grammar.Goals as goal

pub returns : goal.returns
returns c =
    λ limits texts bytes what rest h. let found = record_found limits texts bytes what rest h in (found.whole, found.what_is, found.is)
