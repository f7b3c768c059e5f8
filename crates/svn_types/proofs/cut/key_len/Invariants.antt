use Rattle.std.proofs.Common.{◌≡◌, ◌+◌, ◌*◌, ◌≤◌, length, drop}
use Rattle.svn_types.specs.PathKeys.{path_key}
use Rattle.svn_types.proofs.cut.key_len.Given as goal

-- the bytes so far, which are few, and those of the names that are left
abbrev pub invariant-loop-name : goal.invariant-loop-name
invariant-loop-name l =
    (l.len + length (path_key (drop l.name-index l.names)) ≡ length (path_key l.names)) × (l.len ≤ 256 * l.name-index)
