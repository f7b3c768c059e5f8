use Rattle.std.proofs.Common.{◌≡◌, ◌+◌, ◌≤◌, length}
use Rattle.std.specs.List.{slice_split}
use Rattle.svn_types.specs.Names.{is_slash}
use Rattle.svn_types.specs.NameFaults.{names_fault}
use Rattle.svn_types.proofs.rel_path.count_names.Given as goal

-- no name so far has a fault, and with those that are left they are those of the text
abbrev pub invariant-names : goal.invariant-names
invariant-names l =
    (names_fault (slice_split is_slash l.rest) ≡ names_fault (slice_split is_slash l.fn.text))
    × (l.count + length (slice_split is_slash l.rest) ≡ 1 + length (slice_split is_slash l.fn.text))
    × (l.count + length l.rest ≤ 1 + length l.fn.text)

abbrev pub decreases-names : goal.decreases-names
decreases-names l = length l.rest
