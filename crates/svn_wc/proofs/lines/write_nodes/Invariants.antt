use Rattle.std.proofs.Common.{◌≡◌, ◌++◌, List, ℕ}
use Rattle.std.specs.List.{flat_map}
use Rattle.std.specs.Fmt.{HasWritten, IsPlainFormatter}
use Rattle.svn_nodes.specs.Lines.{node_lines}
use Rattle.svn_wc.proofs.lines.write_nodes.Given as goal

-- what is written so far, and the lines of the nodes that are left
abbrev pub invariant-loop-path : goal.invariant-loop-path
invariant-loop-path g l =
    (done : List ℕ) × (done ++ flat_map node_lines l.path-iterator ≡ flat_map node_lines l.copy)
    × (IsPlainFormatter l.initial.f → HasWritten g.W.Write.write_str_gives l.initial.f done l.f)
