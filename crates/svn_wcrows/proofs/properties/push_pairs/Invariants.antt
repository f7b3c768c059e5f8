use Rattle.std.proofs.Common.{◌≡◌, ◌++◌, List, ℕ}
use Rattle.std.specs.List.{flat_map}
use Rattle.svn_wcrows.specs.Skels.{pair_bytes}
use Rattle.svn_wcrows.proofs.properties.push_pairs.Given as goal

-- what is written so far, and the properties that are left
abbrev pub invariant-loop-name : goal.invariant-loop-name
invariant-loop-name l =
    (done : List ℕ) × (done ++ flat_map pair_bytes l.name-iterator ≡ flat_map pair_bytes l.props) × (l.out.items ≡ l.initial.out.items ++ done)
