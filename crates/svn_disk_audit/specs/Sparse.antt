-- What the directories of a working copy may lack, by what it leaves out.
--     lackable left_out      at each directory the kinds of entries that it may lack
use Rattle.std.specs.Prelude.{Bool, true, false, Option, Some, None}
use Rattle.std.specs.BTreeMap.{is_at}
use Rattle.std.specs.Map.{lookup}
use Rattle.svn_types.specs.declared.kind.Kind.{Kind}
use Rattle.svn_types.specs.Names.{path_cmp}
use Rattle.svn_repo.specs.Readings.{is_directory}
use Rattle.svn_wcdb.specs.declared.depth.Depth.{Depth}
use Rattle.svn_wcdb.specs.declared.depth.Depth.TheVariants.{Empty, Files, Immediates}
use Rattle.svn_wcdb.specs.Sparse.{LeftOut}
use Rattle.svn_audit.specs.Sparse.{Lackable}

-- of a directory of that depth; one of depth infinity has none here
abbrev pub may_lack : Option Depth → Kind → Bool
may_lack None kind = false
may_lack (Some Empty) kind = true
may_lack (Some Files) kind = is_directory kind
may_lack (Some Immediates) kind = false

abbrev pub lackable : LeftOut → Lackable
lackable left_out p = may_lack (lookup (is_at (path_cmp p)) left_out.depths)
