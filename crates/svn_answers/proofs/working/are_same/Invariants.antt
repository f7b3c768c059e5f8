use Rattle.std.proofs.Common.{◌≡◌, ◌<◌, ℕ, List, length}
use Rattle.std.specs.Io.KnownBytes.{Consumes}
use Rattle.svn_answers.proofs.working.are_same.Given as goal

-- both gave the same bytes
abbrev pub invariant-pieces : goal.invariant-pieces
invariant-pieces g l = record {
  done : List ℕ;
  file : Consumes (g.F.Read.remaining l.initial.file) (g.F.Read.remaining l.file) done;
  text : Consumes (g.T.Read.remaining l.initial.text) (g.T.Read.remaining l.text) done;
  room : 0 < length l.file_piece;
  same_room : length l.text_piece ≡ length l.file_piece;
}
