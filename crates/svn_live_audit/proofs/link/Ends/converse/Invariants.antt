use Rattle.svn_ask.specs.Asking.{asked_at}
use Rattle.svn_live_audit.specs.Conversations.{Hears}
use Rattle.svn_live_audit.proofs.link.Ends.converse.Given as goal

-- so much came and was heard, after the questions were asked
abbrev pub invariant-answers : goal.invariant-answers
invariant-answers g l =
    Hears g.R.Read.remaining g.H.Hearer.hears l.fn.self.input l.fn.asking (asked_at l.fn.asking.step l.fn.left).0 l.fn.hearer l.self.input l.asking
    l.left l.hearer
