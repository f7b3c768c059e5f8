use Rattle.std.proofs.Common.{◌≡◌, ◌-◌, ◌≤◌, vec_len}
use Rattle.std.specs.Io.KnownBytes.{Consumes}
use Rattle.svn_dump.specs.Counts.{Counts}
use Rattle.svn_dump.proofs.input.read_pieces.Given as goal

abbrev pub decreases-pieces : goal.decreases-pieces
decreases-pieces g l = l.count - vec_len l.bytes

-- the reader gave the bytes so far, which are not too many
abbrev pub invariant-pieces : goal.invariant-pieces
invariant-pieces g l =
    Consumes (g.S.Input.remaining l.initial.source) (g.S.Input.remaining l.source) l.bytes.items × (vec_len l.bytes ≤ l.count)
    × Counts (g.S.Input.taken l.initial.source) (g.S.Input.remaining l.initial.source) (g.S.Input.taken l.source) (g.S.Input.remaining l.source)
    × (g.S.Input.taken l.initial.source ≤ g.S.Input.taken l.source) × (g.S.Input.failed l.source ≡ g.S.Input.failed l.initial.source)
