use Rattle.svn_folder.specs.Files.{Gives}
use Rattle.svn_folder.proofs.disk.DiskFolder.write_rest.Given as goal

-- some pieces were given
abbrev pub invariant-pieces : goal.invariant-pieces
invariant-pieces g l = Gives (g.P.Pieces.given l.initial.pieces) (g.P.Pieces.given l.pieces)
