use Rattle.std.proofs.Common.{◌≡◌, ◌≤◌, length}
use Rattle.svn_image.proofs.overflow.push_chain.Given as goal

abbrev pub decreases-links : goal.decreases-links
decreases-links l = length l.rest

-- where there are no bytes no page is appended
abbrev pub invariant-links : goal.invariant-links
invariant-links l = (length l.rest ≤ length l.bytes) × (length l.bytes ≡ 0 → l.next ≡ 0)
