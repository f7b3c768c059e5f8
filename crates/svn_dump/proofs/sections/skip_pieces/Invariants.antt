use Rattle.std.proofs.Common.{◌≤◌, ◌≡◌, ◌+◌, List, ℕ, length}
use Rattle.std.specs.Io.KnownBytes.{Consumes}
use Rattle.svn_dump.specs.Counts.{Counts}
use Rattle.svn_dump.proofs.sections.skip_pieces.Given as goal

abbrev pub decreases-pieces : goal.decreases-pieces
decreases-pieces g l = l.left

-- the reader gave what isn't left
abbrev pub invariant-pieces : goal.invariant-pieces
invariant-pieces g l = (front : List ℕ) × Consumes (g.S.Input.remaining l.initial.source) (g.S.Input.remaining l.source) front
    × (length front + l.left ≡ l.len)
    × Counts (g.S.Input.taken l.initial.source) (g.S.Input.remaining l.initial.source) (g.S.Input.taken l.source) (g.S.Input.remaining l.source)
    × (g.S.Input.taken l.initial.source ≤ g.S.Input.taken l.source) × (g.S.Input.failed l.source ≡ g.S.Input.failed l.initial.source)
