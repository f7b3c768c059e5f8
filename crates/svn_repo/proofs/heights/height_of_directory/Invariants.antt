use Rattle.std.proofs.Common.{◌≡◌}
use Rattle.svn_repo.specs.Heights.{height_from}
use Rattle.svn_repo.proofs.heights.height_of_directory.Given as goal

-- the entries that are left make of the height so far the height of all
abbrev pub invariant-loop-child : goal.invariant-loop-child
invariant-loop-child l = height_from l.heights l.height l.child-iterator ≡ height_from l.heights 0 l.entries
