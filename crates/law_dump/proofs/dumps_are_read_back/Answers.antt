use Rattle.std.specs.List.{flat_map}
use Rattle.law_dump.specs.Laws.{written_record}
use Rattle.law_dump.proofs.DumpReads.{format_read, records_read}
use Rattle.law_dump.proofs.dumps_are_read_back.Goals as goal

pub returns : goal.returns
returns c =
    λ limits texts format records low high room h.
    (format_read limits format (flat_map written_record records) low high room, records_read limits texts records room h)
