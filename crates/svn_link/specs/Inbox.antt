-- What the fields of an Inbox stand for.
use Rattle.std.specs.Prelude.{◌≡◌, true, false, [], length}
use Rattle.crossbeam_channel.specs.Claims.{view as hand_of, IsSeatAt}
use Rattle.crossbeam_channel.specs.Ends.{receives_on}
use Rattle.svn_link.specs.declared.inbox.Inbox.TheInside.{Inside}
use Rattle.svn_link.specs.Calls.{is_over}
use Rattle.svn_link.specs.Ends.{LinkEnd}
use Rattle.svn_link.specs.Queue.{hand}

abbrev pub inbox_end : Inside → LinkEnd
inbox_end i = record { link = record { table = i.pass.table_id; keys = i.pass.me.0.of }; calls = (hand_of i.pass).taken }

pub record IsInbox (i : Inside) : Type 0 where
  pub seat : IsSeatAt (receives_on i.receiver) i.pass
  pub takes : hand_of i.pass ≡ hand false true [] (hand_of i.pass).taken
  pub counted : i.count ≡ length (hand_of i.pass).taken
  pub over : i.over ≡ is_over (hand_of i.pass).taken
