use Rattle.std.proofs.Common.{◌≡◌, ◌++◌, ℕ, List, length}
use Rattle.std.specs.List.{flat_map}
use Rattle.std.specs.Fmt.{HasWritten, IsPlainFormatter}
use Rattle.svn_editor.specs.Words.{escaped}
use Rattle.svn_editor.proofs.words.write_pieces.Given as goal

abbrev pub decreases-rest : goal.decreases-rest
decreases-rest g l = length l.rest

-- what is written, and what the rest is printed as
abbrev pub invariant-rest : goal.invariant-rest
invariant-rest g l =
    (done : List ℕ) × (done ++ flat_map escaped l.rest ≡ flat_map escaped l.bytes)
    × (IsPlainFormatter l.initial.f → HasWritten g.W.Write.write_str_gives l.initial.f done l.f)
