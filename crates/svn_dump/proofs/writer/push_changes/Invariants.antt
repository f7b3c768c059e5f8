use Rattle.std.proofs.Common.{◌≡◌, ◌++◌, take}
use Rattle.std.specs.List.{flat_map}
use Rattle.svn_dump.specs.Written.{entry}
use Rattle.svn_dump.proofs.writer.push_changes.Given as goal

-- the changes so far are written
abbrev pub invariant-loop-change : goal.invariant-loop-change
invariant-loop-change l = l.out.items ≡ l.initial.out.items ++ flat_map (λ c. entry c.0 c.1) (take l.change-index l.changes)
