use Rattle.std.specs.Io.Buffered.{reader_remaining}
use Rattle.svn_dump.proofs.Counting.{one_read, no_read}
use Rattle.svn_dump.proofs.input.SourceInput.read.Goals as goal

pub returns-in-Err-clause-counted : goal.returns-in-Err-clause-counted
returns-in-Err-clause-counted g c =
    no_read c.args.self.now.taken (reader_remaining g.R.Read.remaining c.args.self.now.input) (reader_remaining g.R.Read.remaining c.read.new.self)
    c.in-Err.ensures.bytes

pub returns-in-Ok-clause-counted : goal.returns-in-Ok-clause-counted
returns-in-Ok-clause-counted g c =
    one_read c.args.self.now.taken c.saturating_add-self.result c.in-Ok.count (reader_remaining g.R.Read.remaining c.args.self.now.input)
    (reader_remaining g.R.Read.remaining c.read.new.self) c.read.new.buf c.in-Ok.ensures.bytes.0 c.in-Ok.ensures.bound.0
    c.saturating_add-self.ensures
