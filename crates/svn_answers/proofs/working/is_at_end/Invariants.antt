use Rattle.std.proofs.Common.{◌<◌, length, []}
use Rattle.std.specs.Io.KnownBytes.{Consumes}
use Rattle.svn_answers.proofs.working.is_at_end.Given as goal

-- nothing came
abbrev pub invariant-pieces : goal.invariant-pieces
invariant-pieces g l = record {
  taken : Consumes (g.R.Read.remaining l.initial.input) (g.R.Read.remaining l.input) [];
  room : 0 < length l.piece;
}
