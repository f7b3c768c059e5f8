use Rattle.svn_folder.proofs.Giving.{gives_more}
use Rattle.svn_folder.proofs.disk.DiskFolder.write_rest.Goals as goal

pub returns-in_err-write_all-clause-given : goal.returns-in_err-write_all-clause-given
returns-in_err-write_all-clause-given g c =
    gives_more (g.P.Pieces.given c.args.pieces.now) (g.P.Pieces.given c.pieces.pieces) (g.P.Pieces.given c.next_piece.new.self) c.in-Some.piece
    c.pieces.invariant c.in-Some.ensures.given

pub pieces-preserved : goal.pieces-preserved
pieces-preserved g c =
    gives_more (g.P.Pieces.given c.args.pieces.now) (g.P.Pieces.given c.pieces.pieces) (g.P.Pieces.given c.next_piece.new.self) c.in-Some.piece
    c.pieces.invariant c.in-Some.ensures.given
