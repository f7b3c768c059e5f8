use Rattle.std.proofs.Common.{◌≡◌, length}
use Rattle.svn_ask.specs.Talks.{state_at}
use Rattle.svn_ask.proofs.HearLemmas.{Goes}
use Rattle.svn_ask.proofs.talk.Talk.take_all.Given as goal

abbrev pub decreases-items : goal.decreases-items
decreases-items g l = length l.stream.bytes

-- items were taken, and nothing was refused
abbrev pub invariant-items : goal.invariant-items
invariant-items g l = record {
  speaker : l.self.speaker ≡ l.fn.self.speaker;
  goes : Goes g.H.Hearer.hears l.fn.self.speaker l.fn.stream (state_at l.fn.self l.fn.questions) l.fn.hearer l.fn.out.items
      l.stream (state_at l.self l.questions) l.hearer l.out.items;
}
