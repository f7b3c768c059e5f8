use Rattle.std.proofs.Common.{◌≡◌, [], Bool, true}
use Rattle.svn_dump.specs.Readers.{left_in}
use Rattle.svn_dump.proofs.RecordLemmas.{no_record, is_nothing}
use Rattle.svn_dump.proofs.reader.Reader.next_record.Goals as goal

pub returns-then-not-branch-clause-bytes : goal.returns-then-not-branch-clause-bytes
returns-then-not-branch-clause-bytes g c =
    let block = c.read_headers.new.self.block.items in
    let nothing : block ≡ [] =
    is_nothing block (λ some. let found : c.in_ok-read_headers.field-0 ≡ true = c.in_ok-read_headers.ensures.found.1 some in cc) in
    no_record (λ (_ : Bool). block) c.args.self.now.limits c.args.self.now.texts (left_in g.R.Read.remaining c.args.self.now)
    (left_in g.R.Read.remaining c.read_headers.new.self) c.in_ok-read_headers.field-0 c.in_ok-read_headers.ensures.headers nothing
