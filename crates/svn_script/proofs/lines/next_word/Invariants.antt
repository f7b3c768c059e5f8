use Rattle.std.proofs.Common.{◌≡◌, length}
use Rattle.svn_script.specs.Reading.{words_of}
use Rattle.svn_script.proofs.lines.next_word.Given as goal

abbrev pub decreases-pieces : goal.decreases-pieces
decreases-pieces l = length l.rest

-- no word was passed
abbrev pub invariant-pieces : goal.invariant-pieces
invariant-pieces l = words_of l.rest ≡ words_of l.line
