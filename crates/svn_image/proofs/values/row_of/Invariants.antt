use Rattle.std.proofs.Common.{◌≡◌, ◌++◌, map, drop}
use Rattle.sqlite_value.specs.Value.{owned}
use Rattle.svn_image.proofs.values.row_of.Given as goal

-- the values so far, and the others
abbrev pub invariant-loop-value : goal.invariant-loop-value
invariant-loop-value l = l.row ++ map owned (drop l.value-index l.values) ≡ map owned l.values
