use Rattle.std.proofs.Common.{◌≡◌, ◌++◌, length, None}
use denote.Text.{Utf8}
use denote.Shadow.{shadow}
use Rattle.std.specs.List.{slice_split}
use Rattle.svn_types.specs.Names.{is_slash}
use Rattle.svn_types.specs.NameFaults.{names_fault}
use Rattle.svn_types.proofs.rel_path.many_names.Given as goal

-- the names so far and those of what is left are those of the text
abbrev pub invariant-names : goal.invariant-names
invariant-names l =
    shadow (Utf8 l.rest) × (names_fault (slice_split is_slash l.rest) ≡ None)
    × (l.names.items ++ slice_split is_slash l.rest ≡ slice_split is_slash l.fn.text)

abbrev pub decreases-names : goal.decreases-names
decreases-names l = length l.rest
