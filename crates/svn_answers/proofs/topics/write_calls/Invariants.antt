use Rattle.std.proofs.Common.{take}
use Rattle.std.specs.List.{flat_map}
use Rattle.std.specs.Io.KnownBytes.{Appends}
use Rattle.svn_editor.specs.Lines.{call_line}
use Rattle.svn_answers.specs.Topics.{line}
use Rattle.svn_answers.proofs.topics.write_calls.Given as goal

-- the lines so far are written
abbrev pub invariant-loop-call : goal.invariant-loop-call
invariant-loop-call g l =
    Appends (g.W.Write.contents l.initial.output) (g.W.Write.contents l.output) (flat_map (λ c. line (call_line c)) (take l.call-index l.calls))
