use Rattle.std.proofs.Common.{◌≤◌, ◌≡◌, ◌+◌, List, ℕ, [], length, cond}
use Rattle.std.specs.Io.KnownBytes.{Consumes}
use Rattle.svn_dump.specs.Counts.{Counts}
use Rattle.svn_dump.specs.Sections.{Sums}
use Rattle.svn_dump.proofs.sums.read_text_pieces.Given as goal

abbrev pub decreases-pieces : goal.decreases-pieces
decreases-pieces g l = l.left

-- what the reader gave so far is summed, and kept if texts are kept
abbrev pub invariant-pieces : goal.invariant-pieces
invariant-pieces g l = (front : List ℕ) × Consumes (g.S.Input.remaining l.initial.source) (g.S.Input.remaining l.source) front
    × (length front + l.left ≡ l.len) × Sums l.running front × (l.bytes.items ≡ cond l.keeps front [])
    × Counts (g.S.Input.taken l.initial.source) (g.S.Input.remaining l.initial.source) (g.S.Input.taken l.source) (g.S.Input.remaining l.source)
    × (g.S.Input.taken l.initial.source ≤ g.S.Input.taken l.source) × (g.S.Input.failed l.source ≡ g.S.Input.failed l.initial.source)
