-- The fields of commands about many revisions. What is after those named here is passed over.
--     location_fields fields      get-locations: a path, a revision, and the tokens of a list of revisions
--     segment_fields fields      get-location-segments: a path, a revision or none, and the youngest and the oldest that are asked for
use Rattle.std.specs.Prelude.{ℕ, List, Option, Some}
use Rattle.svn_wire.specs.declared.token.Token.{Token}
use Rattle.svn_wire.specs.Fields.{◌>>=◌, list_field, number_field, optional_number, text_field}
use Rattle.svn_replies.specs.CommandFields.{path_and_rev}

unfoldable pub location_fields : List Token → Option (List ℕ × ℕ × List Token)
location_fields fields = do
  path ← text_field fields
  peg ← number_field path.1
  revs ← list_field peg.1
  Some (path.0, peg.0, revs)

unfoldable pub segment_fields : List Token → Option (List ℕ × Option ℕ × Option ℕ × Option ℕ)
segment_fields fields = do
  place ← path_and_rev fields
  start ← optional_number place.2
  end ← optional_number start.1
  Some (place.0, place.1, start.0, end.0)
