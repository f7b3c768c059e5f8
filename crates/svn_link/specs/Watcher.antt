-- What the fields of a Watcher stand for.
use Rattle.std.specs.Prelude.{◌≡◌, false, None}
use Rattle.std.specs.Arc.{arc_value}
use Rattle.crossbeam_utils.specs.Seq.{cell_view}
use Rattle.svn_link.specs.declared.watcher.Watcher.TheInside.{Inside}
use Rattle.svn_link.specs.Ends.{NoticeEnd}
use Rattle.svn_link.specs.Notice.{news}

abbrev pub watcher_end : Inside → NoticeEnd
watcher_end w = record { notice = w.pass.table_id; number = (cell_view w.pass).seen }

pub record IsWatcher (w : Inside) : Type 0 where
  pub seat : w.pass.table_id ≡ (arc_value w.cell).table.shared.table_id
  pub sees : cell_view w.pass ≡ news false None (cell_view w.pass).seen
