use Rattle.std.proofs.Common.{◌==◌, ap}
use Rattle.std.specs.Io.Buffered.{reader_remaining, reader_buffer, reader_capacity, reader_inner}
use Rattle.svn_dump.proofs.Counting.{taken_ahead, one_read}
use Rattle.svn_dump.proofs.input.SourceInput.consume.Goals as goal

pub returns-clause-bytes : goal.returns-clause-bytes
returns-clause-bytes g c =
    taken_ahead c.args.amount (reader_capacity c.args.self.now.input == 0) (reader_capacity c.consume.new.self == 0)
    (reader_buffer c.args.self.now.input) (reader_buffer c.consume.new.self) (g.R.Read.remaining (reader_inner c.args.self.now.input))
    (g.R.Read.remaining (reader_inner c.consume.new.self)) (ap (λ n. n == 0) c.consume.ensures.capacity)
    (ap g.R.Read.remaining c.consume.ensures.inner) c.consume.ensures.buffer

pub returns-clause-counted : goal.returns-clause-counted
returns-clause-counted g c =
    one_read c.args.self.now.taken c.saturating_add-self.result c.args.amount (reader_remaining g.R.Read.remaining c.args.self.now.input)
    (reader_remaining g.R.Read.remaining c.consume.new.self) (reader_buffer c.args.self.now.input) (returns-clause-bytes g c) c.requires
    c.saturating_add-self.ensures
