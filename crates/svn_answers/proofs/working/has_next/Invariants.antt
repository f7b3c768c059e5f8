use Rattle.std.proofs.Common.{◌≡◌, ◌≤◌, ◌++◌, ℕ, List, length}
use Rattle.std.specs.Io.KnownBytes.{Consumes}
use Rattle.svn_answers.proofs.working.has_next.Given as goal

-- so many of the wanted bytes came, and the others are left
abbrev pub invariant-pieces : goal.invariant-pieces
invariant-pieces g l = record {
  done : List ℕ;
  all : l.wanted ≡ done ++ l.rest;
  taken : Consumes (g.R.Read.remaining l.initial.input) (g.R.Read.remaining l.input) done;
  room : length l.rest ≤ length l.piece;
}
