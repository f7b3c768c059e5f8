use Rattle.std.proofs.Common.{◌≡◌, ◌<◌, length}
use Rattle.svn_served.specs.Serving.{Goes}
use Rattle.svn_served.proofs.exchange.Serving.go_to_end.Given as goal

-- bytes were read, and items taken
abbrev pub invariant-items : goal.invariant-items
invariant-items g l = record {
  goes : Goes l.fn.self.served.now l.fn.self.phase l.fn.self.stream l.self.phase l.self.stream (g.R.Read.remaining l.fn.reader) (g.R.Read.remaining l.reader)
      (g.W.Write.contents l.fn.writer) (g.W.Write.contents l.writer);
  served : l.self.served.now ≡ l.fn.self.served.now;
  room : 0 < length l.piece;
}
