use Rattle.svn_folder.proofs.Giving.{gives_after}
use Rattle.svn_folder.proofs.pieces.all_of.Goals as goal

pub returns-in_err-extend_from_slice-clause-given : goal.returns-in_err-extend_from_slice-clause-given
returns-in_err-extend_from_slice-clause-given g c =
    gives_after (g.P.Pieces.given c.args.pieces.now) (g.P.Pieces.given c.pieces.pieces) (g.P.Pieces.given c.next_piece.new.self) c.pieces.bytes.items
    c.in-Some.piece c.pieces.invariant c.in-Some.ensures.given
