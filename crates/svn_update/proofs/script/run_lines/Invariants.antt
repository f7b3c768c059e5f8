use Rattle.std.proofs.Common.{◌≡◌, ◌+◌, ◌++◌, ◌≤◌, List, ℕ, length}
use Rattle.std.specs.Io.KnownBytes.{Appends}
use Rattle.svn_script.specs.Reading.{lines_of}
use Rattle.svn_update.specs.Scripts.{DoesLines}
use Rattle.svn_update.proofs.script.run_lines.Given as goal

abbrev pub decreases-lines : goal.decreases-lines
decreases-lines g l = length l.rest

-- some lines are done, and the others are those of the rest; each line takes one byte at least
abbrev pub invariant-lines : goal.invariant-lines
invariant-lines g l =
    (before : List (List ℕ)) × (text : List ℕ)
    × (lines_of l.script ≡ before ++ lines_of l.rest) × (l.number ≡ length before + 1)
    × DoesLines l.host.settings before l.initial.state l.state text
    × Appends (g.W.Write.contents l.initial.writer) (g.W.Write.contents l.writer) text
    × (l.number + length l.rest ≤ 16777217)
