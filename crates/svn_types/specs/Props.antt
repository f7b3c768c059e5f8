-- Changes of properties.
--     with_changes props changes      the properties after the changes, made in order
--     changes_between old new      one change for each name whose value differs, in byte order of the names
use Rattle.std.specs.Prelude.{ℕ, Bool, true, false, List, bytes_eq, Option, Some, None, if◌then◌else◌, fold, filter_map}
use Rattle.std.specs.Map.{keys_of}
use Rattle.std.specs.BTreeSet.{insert_key}
use Rattle.svn_types.specs.Names.{name_cmp}
use Rattle.svn_types.specs.Pairs.{value_of, with_value}

-- a change of one property: its name, and its value or nothing for a removal
abbrev pub PropChange : Type 0
PropChange = List ℕ × Option (List ℕ)

abbrev pub with_changes : List (List ℕ × List ℕ) → List PropChange → List (List ℕ × List ℕ)
with_changes props changes = fold (λ ps c. with_value ps c.0 c.1) props changes

abbrev pub is_same_value : Option (List ℕ) → Option (List ℕ) → Bool
is_same_value None None = true
is_same_value (Some a) (Some b) = bytes_eq a b
is_same_value _ _ = false

-- the names of both, in order
abbrev pub names_of_both : List (List ℕ × List ℕ) → List (List ℕ × List ℕ) → List (List ℕ)
names_of_both old new = fold (insert_key name_cmp) (keys_of old) (keys_of new)

abbrev pub change_between : List (List ℕ × List ℕ) → List (List ℕ × List ℕ) → List ℕ → Option PropChange
change_between old new name =
    if is_same_value (value_of old name) (value_of new name) then None else Some (name, value_of new name)

abbrev pub changes_between : List (List ℕ × List ℕ) → List (List ℕ × List ℕ) → List PropChange
changes_between old new = filter_map (change_between old new) (names_of_both old new)
