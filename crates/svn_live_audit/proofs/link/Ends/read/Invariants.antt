use Rattle.std.specs.Io.KnownBytes.{Keeps}
use Rattle.svn_live_audit.proofs.link.Ends.read.Given as goal

-- nothing was read
abbrev pub invariant-reads : goal.invariant-reads
invariant-reads g l = Keeps (g.R.Read.remaining l.fn.self.input) (g.R.Read.remaining l.self.input)
