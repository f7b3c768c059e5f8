use Rattle.std.proofs.Common.{◌≡◌, ◌≤◌, false}
use Rattle.svn_dump.specs.Counts.{Counts}
use Rattle.svn_dump.specs.Blocks.{block_at}
use Rattle.svn_dump.proofs.Streams.{Continues}
use Rattle.svn_dump.proofs.input.read_block.Given as goal

abbrev pub decreases-bytes : goal.decreases-bytes
decreases-bytes g l = l.left

-- all bytes so far were passed over
abbrev pub invariant-bytes : goal.invariant-bytes
invariant-bytes g l =
    Continues (g.S.Input.remaining l.initial.source) (g.S.Input.remaining l.source) (block_at false l.room) (block_at l.blank l.left)
    × (l.left ≤ l.room)
    × Counts (g.S.Input.taken l.initial.source) (g.S.Input.remaining l.initial.source) (g.S.Input.taken l.source) (g.S.Input.remaining l.source)
    × (g.S.Input.taken l.initial.source ≤ g.S.Input.taken l.source) × (g.S.Input.failed l.source ≡ g.S.Input.failed l.initial.source)
