use Rattle.std.specs.Io.KnownBytes.{Appends}
use Rattle.svn_folder.proofs.pieces.all_of.Given as goal

-- the pieces so far are the bytes so far
abbrev pub invariant-pieces : goal.invariant-pieces
invariant-pieces g l = Appends (g.P.Pieces.given l.initial.pieces) (g.P.Pieces.given l.pieces) l.bytes.items
