use Rattle.std.specs.Io.KnownBytes.{Keeps}
use Rattle.svn_served.proofs.exchange.read_more.Given as goal

-- an interrupted read takes nothing
abbrev pub invariant-reads : goal.invariant-reads
invariant-reads g l = Keeps (g.R.Read.remaining l.fn.reader) (g.R.Read.remaining l.reader)
