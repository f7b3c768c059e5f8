use Rattle.std.proofs.Common.{◌≤◌, ◌≡◌, ◌+◌, [], ◌∷◌, false, vec_len}
use Rattle.svn_dump.specs.Counts.{Counts}
use Rattle.svn_dump.specs.Blocks.{headers_at, with_front}
use Rattle.svn_dump.proofs.Streams.{Continues}
use Rattle.svn_dump.proofs.input.read_headers.Given as goal

abbrev pub decreases-bytes : goal.decreases-bytes
decreases-bytes g l = l.left

-- the headers go on after those that were read, and each byte took its room
abbrev pub invariant-bytes : goal.invariant-bytes
invariant-bytes g l =
    Continues (g.S.Input.remaining l.initial.source) (g.S.Input.remaining l.source)
    (λ bs. with_front (l.first ∷ []) (headers_at false l.room bs))
    (λ bs. with_front l.block.items (headers_at l.fresh l.left bs))
    × (vec_len l.block + l.left ≡ l.room + 1)
    × Counts (g.S.Input.taken l.initial.source) (g.S.Input.remaining l.initial.source) (g.S.Input.taken l.source) (g.S.Input.remaining l.source)
    × (g.S.Input.taken l.initial.source ≤ g.S.Input.taken l.source) × (g.S.Input.failed l.source ≡ g.S.Input.failed l.initial.source)
