use Rattle.std.proofs.Common.{◌-◌, ◌≤◌, vec_len}
use Rattle.std.specs.Io.KnownBytes.{Consumes}
use Rattle.svn_script.proofs.lines.read_script.Given as goal

-- each read gives a byte at least
abbrev pub decreases-reads : goal.decreases-reads
decreases-reads g l = 16777217 - vec_len l.script

-- what the reader gave so far is the script, and no more than one byte too many
abbrev pub invariant-reads : goal.invariant-reads
invariant-reads g l =
    Consumes (g.R.Read.remaining l.initial.reader) (g.R.Read.remaining l.reader) l.script.items
    × (vec_len l.script ≤ 16777217)
