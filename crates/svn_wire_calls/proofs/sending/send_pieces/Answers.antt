use Rattle.std.proofs.Common.{◌≡◌, ◌≤◌, ◌∙◌, min, length, length-take-le, arith, rules}
use Rattle.svn_wire_calls.proofs.Sendings.{none_sent, more_sent, all_sent}
use Rattle.svn_wire_calls.proofs.sending.send_pieces.Goals as goal

pub pieces-init : goal.pieces-init
pieces-init g c =
    none_sent c.args.form.now c.args.len _ (g.R.Read.remaining c.args.reader.now) (g.W.Write.contents c.args.writer.now) c.new.ensures (search rules)
    (search rules)

pub pieces-preserved : goal.pieces-preserved
pieces-preserved g c =
    let room : c.min-count.result ≤ length c.pieces.buffer = omega (arith, c.min-count.ensures, c.requires.room, c.pieces.auto.buffer) in
    let is : length c.send_piece.new.piece ≡ min c.pieces.sent.left 102400 =
    c.send_piece.auto.piece ∙ length-take-le c.min-count.result c.pieces.buffer room ∙ c.min-count.ensures in
    more_sent c.args.form.now c.args.len c.pieces.sent c.send_piece.new.self (g.R.Read.remaining c.args.reader.now) (g.R.Read.remaining c.pieces.reader) _
    (g.W.Write.contents c.args.writer.now) (g.W.Write.contents c.pieces.writer) _ c.send_piece.new.piece c.pieces.invariant c.in_ok-send_piece.ensures is
    c.pieces-test.true

pub returns : goal.returns
returns g c =
    let h =
    all_sent c.args.form.now c.args.len c.pieces.sent (g.R.Read.remaining c.args.reader.now) (g.R.Read.remaining c.pieces.reader)
    (g.W.Write.contents c.args.writer.now) (g.W.Write.contents c.pieces.writer) c.pieces.invariant c.pieces-test.false c.requires.some in
    (h.0, h.1, c.finish.ensures h.0 h.2 h.1, h.3, h.4)
