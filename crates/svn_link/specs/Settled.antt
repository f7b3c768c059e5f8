-- What the fields of a settled link stand for.
use Rattle.std.specs.Prelude.{◌≡◌, length}
use Rattle.crossbeam_channel.specs.Claims.{view as hand_of}
use Rattle.svn_link.specs.declared.settled.Settled.TheInside.{Inside}
use Rattle.svn_link.specs.Calls.{BeginsWith}
use Rattle.svn_link.specs.Ends.{Passed}

abbrev pub passed_of : Inside → Passed
passed_of s = record { sent = (hand_of s.pass).sent; taken = (hand_of s.pass).taken }

pub record IsSettled (s : Inside) : Type 0 where
  pub sent_is : s.sent ≡ length (hand_of s.pass).sent
  pub taken_is : s.taken ≡ length (hand_of s.pass).taken
  pub prefix : BeginsWith (hand_of s.pass).sent (hand_of s.pass).taken
