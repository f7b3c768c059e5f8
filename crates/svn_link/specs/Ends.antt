-- What a contract sees of the ends of a link and of a notice.
use Rattle.std.specs.Prelude.{◌≤◌, List, ℕ, Option}
use Rattle.svn_types.specs.Limits.{capacity_limit}
use Rattle.svn_editor.specs.declared.call.Call.{Call}
use Rattle.atomic_table.specs.Seated.{TableId}
use Rattle.atomic_table.specs.declared.badge.Badge.{Badge}
use Rattle.crossbeam_channel.specs.declared.flavors.array.Key.{Key}

-- how many calls the queue of a link may hold
abbrev pub IsCapacity : ℕ → Type 0
IsCapacity n = (1 ≤ n) × (n ≤ capacity_limit)

-- which link it is
pub record LinkId : Type 0 where
  pub table : TableId
  pub keys : Badge (Key Call)

-- the link of an Outbox or an Inbox, and the calls that went through this end, in order
pub record LinkEnd : Type 0 where
  pub link : LinkId
  pub calls : List Call

-- the calls that were sent through a link, and those that were taken, in order
pub record Passed : Type 0 where
  pub sent : List Call
  pub taken : List Call

-- the notice of a Teller or a Watcher, and the number that this end told or saw
pub record NoticeEnd : Type 0 where
  pub notice : TableId
  pub number : Option ℕ
