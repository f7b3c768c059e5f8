-- What the fields of an Outbox stand for.
use Rattle.std.specs.Prelude.{◌≡◌, true, false, [], length}
use Rattle.crossbeam_channel.specs.Claims.{view as hand_of, IsSeatAt}
use Rattle.crossbeam_channel.specs.Ends.{sends_on}
use Rattle.svn_link.specs.declared.outbox.Outbox.TheInside.{Inside}
use Rattle.svn_link.specs.Calls.{is_over, EndsAtLast}
use Rattle.svn_link.specs.Ends.{LinkEnd}
use Rattle.svn_link.specs.Queue.{hand}

abbrev pub outbox_end : Inside → LinkEnd
outbox_end o = record { link = record { table = o.pass.table_id; keys = o.pass.me.0.of }; calls = (hand_of o.pass).sent }

pub record IsOutbox (o : Inside) : Type 0 where
  pub seat : IsSeatAt (sends_on o.sender) o.pass
  pub sends : hand_of o.pass ≡ hand true false (hand_of o.pass).sent []
  pub counted : o.count ≡ length (hand_of o.pass).sent
  pub over : o.over ≡ is_over (hand_of o.pass).sent
  pub last : EndsAtLast (hand_of o.pass).sent
