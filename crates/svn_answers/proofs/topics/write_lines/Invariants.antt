use Rattle.std.proofs.Common.{take, string_bytes}
use Rattle.std.specs.List.{flat_map}
use Rattle.std.specs.Io.KnownBytes.{Appends}
use Rattle.svn_answers.specs.Topics.{line}
use Rattle.svn_answers.proofs.topics.write_lines.Given as goal

-- the lines so far are written
abbrev pub invariant-loop-text : goal.invariant-loop-text
invariant-loop-text g l =
    Appends (g.W.Write.contents l.initial.output) (g.W.Write.contents l.output) (flat_map (λ s. line (string_bytes s)) (take l.text-index l.texts))
