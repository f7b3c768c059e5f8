-- The table LOCK: what a client has locked in the repository, with `svn lock`. It reports the tokens of these locks, which the base tree doesn't have.
--     locks_of repos_id rows      the paths of that repository that are locked, in path order
--     locked_in locks nodes      how many of the nodes are locked files
use Rattle.std.specs.Prelude.{ℕ, Bool, false, List, [], length, filter, filter_map, fold, Option, Some, None, Result, Ok, Err, if◌then◌else◌}
use Rattle.std.specs.List.{list_any}
use Rattle.std.specs.BTreeMap.{is_at}
use Rattle.std.specs.BTreeSet.{insert_key}
use Rattle.svn_model.specs.declared.base_node.BaseNode.{BaseNode}
use Rattle.svn_model.specs.declared.base_node.BaseNode.TheVariants as base
use Rattle.svn_types.specs.Names.{Path, path_cmp}
use Rattle.svn_wcdb.specs.declared.fault.Reason.{Reason}
use Rattle.svn_wcdb.specs.declared.table.TableRow.{TableRow}
use Rattle.svn_wcdb.specs.Paths.{path_of}
use Rattle.svn_wcdb.specs.Columns.{is_number, number_at, path_at}

abbrev pub path_or_none : Result Path Reason → Option Path
path_or_none (Ok path) = Some path
path_or_none (Err reason) = None

abbrev pub path_in : Option (List ℕ) → Option Path
path_in None = None
path_in (Some text) = path_or_none (path_of text)

-- by the columns of a row (wc-metadata.sql): the repository and the path; there is no node at a path that isn't one
abbrev pub lock_at : ℕ → TableRow → Option Path
lock_at repos_id row = if is_number (number_at 0 row.bytes) repos_id then path_in (path_at row.bytes) else None

abbrev pub locks_of : ℕ → List TableRow → List Path
locks_of repos_id rows = fold (insert_key path_cmp) [] (filter_map (lock_at repos_id) rows)

-- only files can be locked
abbrev pub is_locked : List Path → Path × BaseNode → Bool
is_locked locks (p, base.File r q t ps) = list_any (is_at (path_cmp q)) locks
is_locked locks (p, base.Dir r q complete ps) = false
is_locked locks (p, base.NotPresent) = false

abbrev pub locked_in : List Path → List (Path × BaseNode) → ℕ
locked_in locks nodes = length (filter (is_locked locks) nodes)
