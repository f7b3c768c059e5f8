use Rattle.std.proofs.Common.{take}
use Rattle.std.specs.List.{flat_map}
use Rattle.std.specs.Fmt.{HasWritten, IsPlainFormatter}
use Rattle.svn_update.specs.Answers.{call_text}
use Rattle.svn_update.proofs.answer.write_kept.Given as goal

-- the calls of the lists so far are written
abbrev pub invariant-loop-list : goal.invariant-loop-list
invariant-loop-list g l =
    IsPlainFormatter l.initial.f
    → HasWritten g.W.Write.write_str_gives l.initial.f (flat_map (λ list. flat_map call_text list.items) (take l.list-index l.full)) l.f
