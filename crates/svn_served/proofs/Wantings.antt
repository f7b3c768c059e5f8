-- What a drive is asked for, as it is read.
use Rattle.std.proofs.Common.{ℕ, List, Option, None}
use Rattle.svn_replies.specs.declared.fault.Refused.{Refused}
use Rattle.svn_replies.specs.declared.served.Served.{Served}
use Rattle.svn_replies.specs.declared.session.Session.{Session}
use Rattle.svn_replies.specs.Named.{named_rev}
use Rattle.svn_replies.specs.Refusals.{Fails}
use Rattle.svn_served.specs.AskedFields.{Asked}
use Rattle.svn_served.specs.Asking.{IsFree}
use Rattle.svn_served.specs.Wanting.{wanted_of}
use Rattle.svn_served.proofs.Refusing.{fails_first}

module _ (s : Served) (session : Session) (asked : Asked) where
  -- no name was looked for
  pub none_free : IsFree s asked.rev None
  none_free target is = tt

  pub rev_fails : (free : Option (List ℕ)) (e : Refused) → Fails e (named_rev s.repo asked.rev) → Fails e (wanted_of s session free asked)
  unfolding wanted_of
  rev_fails free e h = fails_first e (named_rev s.repo asked.rev) _ h
