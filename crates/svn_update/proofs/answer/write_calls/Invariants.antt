use Rattle.std.proofs.Common.{take}
use Rattle.std.specs.List.{flat_map}
use Rattle.std.specs.Fmt.{HasWritten, IsPlainFormatter}
use Rattle.svn_update.specs.Answers.{call_text}
use Rattle.svn_update.proofs.answer.write_calls.Given as goal

-- the calls so far are written
abbrev pub invariant-loop-call : goal.invariant-loop-call
invariant-loop-call g l =
    IsPlainFormatter l.initial.f → HasWritten g.W.Write.write_str_gives l.initial.f (flat_map call_text (take l.call-index l.calls)) l.f
