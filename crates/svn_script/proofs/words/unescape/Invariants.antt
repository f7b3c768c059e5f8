use Rattle.std.proofs.Common.{◌≡◌, ◌++◌, List, ℕ, length, option_map}
use Rattle.svn_script.specs.Reading.{unescaped}
use Rattle.svn_script.proofs.words.unescape.Given as goal

abbrev pub decreases-escapes : goal.decreases-escapes
decreases-escapes l = length l.rest

-- the bytes so far, and those that the rest means
abbrev pub invariant-escapes : goal.invariant-escapes
invariant-escapes l = option_map (λ (bs : List ℕ). l.bytes.items ++ bs) (unescaped l.rest) ≡ unescaped l.word
