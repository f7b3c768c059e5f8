use Rattle.svn_wire_calls.specs.Sending.{HasSent}
use Rattle.svn_wire_calls.proofs.sending.send_pieces.Given as goal

abbrev pub decreases-pieces : goal.decreases-pieces
decreases-pieces g l = l.sent.left

-- the first pieces are read and written
abbrev pub invariant-pieces : goal.invariant-pieces
invariant-pieces g l =
    HasSent l.fn.form l.fn.len l.sent (g.R.Read.remaining l.fn.reader) (g.R.Read.remaining l.reader) (g.W.Write.contents l.fn.writer)
    (g.W.Write.contents l.writer)
