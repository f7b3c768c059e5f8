use Rattle.std.proofs.Common.{◌≡◌, length}
use Rattle.svn_ask.specs.Openings.{is_listed}
use Rattle.svn_ask.proofs.opening.is_listed.Given as goal

abbrev pub decreases-words : goal.decreases-words
decreases-words l = length l.rest

-- it isn't among the words so far
abbrev pub invariant-words : goal.invariant-words
invariant-words l = is_listed l.word l.rest ≡ is_listed l.word l.list
