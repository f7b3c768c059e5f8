-- Pairs of a name and a value, in order of the names: the entries of a directory, and the properties of a node.
use Rattle.std.specs.Prelude.{◌≡◌, ℕ, List, Option, Some, None, bytes_eq, if◌then◌else◌}
use Rattle.std.specs.List.Sorted.{IsStrictlySortedBy}
use Rattle.std.specs.Map.{keys_of, lookup, remove_entry}
use Rattle.std.specs.BTreeMap.{is_at, insert_entry}
use Rattle.svn_types.specs.Names.{name_cmp}

-- the names are in strict order
abbrev pub InNameOrder : {V : Type 0} → List (List ℕ × V) → Type 0
InNameOrder es = IsStrictlySortedBy name_cmp (keys_of es)

-- the value under a name, if there is one
abbrev pub value_of : {V : Type 0} → List (List ℕ × V) → List ℕ → Option V
value_of es name = lookup (is_at (name_cmp name)) es

-- the name set to the value, or removed
abbrev pub with_value : {V : Type 0} → List (List ℕ × V) → List ℕ → Option V → List (List ℕ × V)
with_value es name None = remove_entry (is_at (name_cmp name)) es
with_value es name (Some v) = insert_entry name_cmp es name v

-- the name has the value, or none, and every other name has what it had
abbrev pub ChangesOnly : {V : Type 0} → List (List ℕ × V) → List (List ℕ × V) → List ℕ → Option V → Type 0
ChangesOnly old new name value = (x : List ℕ) → value_of new x ≡ (if bytes_eq name x then value else value_of old x)
