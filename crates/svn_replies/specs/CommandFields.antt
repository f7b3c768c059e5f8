-- The fields of commands. What is after those named here is passed over.
--     path_and_rev fields      a path, a revision or none, and what is after them
--     node_fields fields      get-file, get-dir: the same, whether properties are wanted, and whether the text or the entries are
--     prop_fields fields      rev-prop: a revision and a name
use Rattle.std.specs.Prelude.{ℕ, Bool, List, Option, Some}
use Rattle.svn_wire.specs.declared.token.Token.{Token}
use Rattle.svn_wire.specs.Fields.{◌>>=◌, bool_field, number_field, optional_number, text_field}

unfoldable pub path_and_rev : List Token → Option (List ℕ × Option ℕ × List Token)
path_and_rev fields = do
  path ← text_field fields
  rev ← optional_number path.1
  Some (path.0, rev.0, rev.1)

unfoldable pub node_fields : List Token → Option (List ℕ × Option ℕ × Bool × Bool)
node_fields fields = do
  place ← path_and_rev fields
  props ← bool_field place.2
  content ← bool_field props.1
  Some (place.0, place.1, props.0, content.0)

unfoldable pub prop_fields : List Token → Option (ℕ × List ℕ)
prop_fields fields = do
  rev ← number_field fields
  name ← text_field rev.1
  Some (rev.0, name.0)
