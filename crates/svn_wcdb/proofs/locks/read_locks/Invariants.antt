use Rattle.std.proofs.Common.{◌≡◌, length}
use Rattle.std.specs.Prelude.{fold, filter_map}
use Rattle.std.specs.BTreeSet.{insert_key}
use Rattle.svn_types.specs.Names.{path_cmp}
use Rattle.svn_wcdb.specs.Locks.{lock_at, locks_of}
use Rattle.svn_wcdb.proofs.locks.read_locks.Given as goal

abbrev pub decreases-rows : goal.decreases-rows
decreases-rows l = length l.rest

-- the paths so far, and those of the rows that are left
abbrev pub invariant-rows : goal.invariant-rows
invariant-rows l = fold (insert_key path_cmp) l.locks.keys (filter_map (lock_at l.repos_id) l.rest) ≡ locks_of l.repos_id l.rows
