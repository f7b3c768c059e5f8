use Rattle.std.proofs.Common.{◌++◌, length-append, length-take-le, take, arith, ◌∙◌}
use Rattle.svn_dump.proofs.Pieces.{kept_more, more_taken}
use Rattle.svn_dump.proofs.sums.read_text_pieces.Goals as goal

pub pieces-preserved : goal.pieces-preserved
pieces-preserved g c =
    let front = c.pieces.invariant.0 in
    let count = c.in_ok-count.ensures.count in
    let more = take c.in_ok-count.count c.read_piece.new.piece in
    let taken = length-take-le c.in_ok-count.count c.read_piece.new.piece count.2 in
    let joined = length-append front more in (
      front ++ more,
      more_taken (g.S.Input.remaining c.args.source.now) (g.S.Input.remaining c.pieces.source) (g.S.Input.remaining c.read_piece.new.source) front more
          c.pieces.invariant.1 c.in_ok-count.ensures.bytes,
      omega (arith, taken, joined, count.1, c.pieces.invariant.2),
      c.update.ensures front c.pieces.invariant.3,
      kept_more c.args.keeps front more c.pieces.bytes.items c.keep.new.bytes.items c.pieces.invariant.4
          c.in_ok-keep.ensures.kept,
      λ all h. c.read_piece.ensures.counted all (c.pieces.invariant.5 all h),
      omega (arith, c.read_piece.ensures.grows, c.pieces.invariant.6),
      c.in_ok-count.ensures.failed ∙ c.pieces.invariant.7,
    )
