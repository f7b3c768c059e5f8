-- What the fields of a Teller stand for.
use Rattle.std.specs.Prelude.{◌≡◌, true, None}
use Rattle.std.specs.Arc.{arc_value}
use Rattle.std.specs.Option.{is_some}
use Rattle.crossbeam_utils.specs.Seq.{cell_view}
use Rattle.svn_link.specs.declared.teller.Teller.TheInside.{Inside}
use Rattle.svn_link.specs.Ends.{NoticeEnd}
use Rattle.svn_link.specs.Notice.{news}

abbrev pub teller_end : Inside → NoticeEnd
teller_end t = record { notice = t.pass.table_id; number = (cell_view t.pass).told }

pub record IsTeller (t : Inside) : Type 0 where
  pub seat : t.pass.table_id ≡ (arc_value t.cell).table.shared.table_id
  pub tells : cell_view t.pass ≡ news true (cell_view t.pass).told None
  pub told : t.told ≡ is_some (cell_view t.pass).told
