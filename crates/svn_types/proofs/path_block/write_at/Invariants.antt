use Rattle.std.proofs.Common.{◌≡◌, ◌+◌, ◌++◌, length, take}
use Rattle.svn_types.proofs.path_block.write_at.Given as goal

-- the names so far are after those before the start
abbrev pub invariant-name : goal.invariant-name
invariant-name g l =
    (take (l.start + l.i) l.room ≡ take l.start l.initial.room ++ take l.i l.names) × (length l.room ≡ length l.initial.room)
