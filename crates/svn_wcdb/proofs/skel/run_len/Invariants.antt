use Rattle.std.proofs.Common.{◌≡◌, ◌+◌, length}
use Rattle.svn_wcdb.specs.Skels.{run_len}
use Rattle.svn_wcdb.proofs.skel.run_len.Given as goal

abbrev pub decreases-bytes : goal.decreases-bytes
decreases-bytes l = length l.rest

-- the bytes so far are of that kind
abbrev pub invariant-bytes : goal.invariant-bytes
invariant-bytes l = (run_len l.run l.bytes ≡ l.len + run_len l.run l.rest) × (l.len + length l.rest ≡ length l.bytes)
