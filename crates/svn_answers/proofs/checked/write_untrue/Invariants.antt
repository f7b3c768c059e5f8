use Rattle.std.proofs.Common.{take}
use Rattle.std.specs.List.{flat_map}
use Rattle.std.specs.Fmt.{HasWritten, IsPlainFormatter}
use Rattle.svn_answers.specs.Lines.{untrue_line}
use Rattle.svn_answers.proofs.checked.write_untrue.Given as goal

-- the lines so far are written
abbrev pub invariant-loop-untrue : goal.invariant-loop-untrue
invariant-loop-untrue g l =
    IsPlainFormatter l.initial.f
    → HasWritten g.W.Write.write_str_gives l.initial.f (flat_map (untrue_line l.name.0.now) (take l.untrue-index l.paths)) l.f
