use Rattle.svn_ask.proofs.TalkLemmas.{opens}
use Rattle.svn_ask.proofs.talk.Talk.open_on.Goals as goal

pub returns-clause-opened : goal.returns-clause-opened
returns-clause-opened c = opens _ _ _ _ _ _ _ c.in_ok-self.ensures.next c.in_ok-ask_at.ensures.asked c.in_ok-ask_at.ensures.written
