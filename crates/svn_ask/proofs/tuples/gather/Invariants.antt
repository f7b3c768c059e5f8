use Rattle.std.proofs.Common.{◌≡◌, length}
use Rattle.svn_ask.specs.Tuples.{tuples}
use Rattle.svn_ask.proofs.tuples.gather.Given as goal

abbrev pub decreases-tuples : goal.decreases-tuples
decreases-tuples g l = length l.rest

-- the tuples so far are gathered
abbrev pub invariant-tuples : goal.invariant-tuples
invariant-tuples g l = tuples g.G.Tuples.adds 0 l.gathered l.rest ≡ tuples g.G.Tuples.adds 0 l.initial.gathered l.list
