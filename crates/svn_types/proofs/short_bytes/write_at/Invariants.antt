use Rattle.std.proofs.Common.{◌≡◌, ℕ, ◌+◌, ◌≤◌, ◌++◌, length, take, get_or}
use Rattle.svn_types.proofs.short_bytes.write_at.Given as goal

-- the bytes so far are after those before the start, and what is after them is as it was
abbrev pub invariant-byte : goal.invariant-byte
invariant-byte g l =
    (take (l.start + l.i) l.room ≡ take l.start l.initial.room ++ take l.i l.source) × (length l.room ≡ length l.initial.room)
    × ((j : ℕ) → l.start + l.i ≤ j → get_or l.room j 0 ≡ get_or l.initial.room j 0)
