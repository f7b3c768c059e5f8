use Rattle.std.proofs.Common.{◌≤◌, ℕ, List, length, length-append, arith}
use Rattle.svndiff.specs.Deltas.{header}
use Rattle.svndiff.specs.Writing.{delta_of, windows, window_count}
use Rattle.svn_wire_calls.proofs.pieces.push_window.Goals as goal

-- each delta has the header of deltas
has_header : (text : List ℕ) → 4 ≤ length (delta_of text)
unfolding delta_of
has_header text =
    let e = length-append header (windows (window_count (length text)) text) in
    omega (arith, e)

pub split_at-requires : goal.split_at-requires
split_at-requires c = rw (c.as_slice.ensures.value, c.in_ok-delta.ensures) (has_header c.args.piece.now)
