use Rattle.std.proofs.Common.{◌≤◌, drop, length, arith}
use Rattle.std.proofs.Math.ListN.{drop_of_length-le}
use Rattle.svn_edit.proofs.Saying.{said_done}
use Rattle.svn_edit.proofs.baton.Baton.change.Goals as goal

pub returns : goal.returns
returns c = λ said s.
    let over : length c.as_slice-note-items.result.now ≤ c.loop-note.note-index = omega arith in
    said_done c.args.props.now c.loop-note.props said (drop c.loop-note.note-index c.as_slice-note-items.result.now) c.loop-note.strings
    (c.loop-note.invariant said s) (drop_of_length-le c.as_slice-note-items.result.now over)
