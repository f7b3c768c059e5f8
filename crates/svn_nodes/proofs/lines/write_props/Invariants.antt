use Rattle.std.proofs.Common.{◌≡◌, ◌++◌, List, ℕ}
use Rattle.std.specs.List.{flat_map}
use Rattle.std.specs.Fmt.{HasWritten, IsPlainFormatter}
use Rattle.svn_nodes.specs.Lines.{prop_line}
use Rattle.svn_nodes.proofs.lines.write_props.Given as goal

-- what is written so far, and the lines of the properties that are left
abbrev pub invariant-loop-name : goal.invariant-loop-name
invariant-loop-name g l =
    (done : List ℕ) × (done ++ flat_map (prop_line l.path) l.name-iterator ≡ flat_map (prop_line l.path) l.props)
    × (IsPlainFormatter l.initial.f → HasWritten g.W.Write.write_str_gives l.initial.f done l.f)
