use Rattle.svn_wire_calls.proofs.Writings.{all_written}
use Rattle.svn_wire_calls.proofs.laws.calls_are_written.Goals as goal

pub returns : goal.returns
returns c s = all_written (λ x. x.writer.ghost_name) (λ x. c.W.Write.contents x.writer.now) (λ x. x.teller) c.T.Teller.tells c.T.TextMap.stands_for c.T.TextMap.sums _
