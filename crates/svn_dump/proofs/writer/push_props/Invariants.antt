use Rattle.std.proofs.Common.{◌≡◌, ◌++◌, List, ℕ, Some}
use Rattle.std.specs.List.{flat_map}
use Rattle.svn_dump.specs.Written.{entry}
use Rattle.svn_dump.proofs.writer.push_props.Given as goal

-- what is written so far, and the properties that are left
abbrev pub invariant-loop-name : goal.invariant-loop-name
invariant-loop-name l =
    (done : List ℕ) × (done ++ flat_map (λ p. entry p.0 (Some p.1)) l.name-iterator ≡ flat_map (λ p. entry p.0 (Some p.1)) l.props)
    × (l.out.items ≡ l.initial.out.items ++ done)
