use Rattle.std.proofs.Common.{Ok, Err}
use Rattle.svn_folder.proofs.Giving.{gives_all, unknown_made}
use Rattle.svn_folder.proofs.write_behind.WriteBehindFolder.make_file.Goals as goal

pub returns-in-Ok-clause-made : goal.returns-in-Ok-clause-made
returns-in-Ok-clause-made g c =
    let given = g.P.Pieces.given in
    unknown_made c.args.path.now c.args.mode c.args.modified (given c.args.pieces.now) (given c.make_large.new.pieces) (Ok tt)
    (gives_all (given c.args.pieces.now) (given c.next_piece.new.self) (given c.next_piece-2.new.self) (given c.make_large.new.pieces)
    c.in-Some.first c.in-Some-next_piece.second c.in-Some.ensures.given c.in-Some-next_piece.ensures.given c.in-Ok.ensures.given)

pub returns-in_err-failed-in-Err-clause-made : goal.returns-in_err-failed-in-Err-clause-made
returns-in_err-failed-in-Err-clause-made g c =
    let given = g.P.Pieces.given in
    unknown_made c.args.path.now c.args.mode c.args.modified (given c.args.pieces.now) (given c.make_large.new.pieces) c.from_residual-in_err-failed-in-Err.result
    (gives_all (given c.args.pieces.now) (given c.next_piece.new.self) (given c.next_piece-2.new.self) (given c.make_large.new.pieces)
    c.in-Some.first c.in-Some-next_piece.second c.in-Some.ensures.given c.in-Some-next_piece.ensures.given c.in-Err.ensures.given)

pub returns-clause-made : goal.returns-clause-made
returns-clause-made g c =
    let given = g.P.Pieces.given in
    unknown_made c.args.path.now c.args.mode c.args.modified (given c.args.pieces.now) (given c.make_large.new.pieces) (Err c.in_ok-failed-in-Err.field-0)
    (gives_all (given c.args.pieces.now) (given c.next_piece.new.self) (given c.next_piece-2.new.self) (given c.make_large.new.pieces)
    c.in-Some.first c.in-Some-next_piece.second c.in-Some.ensures.given c.in-Some-next_piece.ensures.given c.in-Err.ensures.given)
