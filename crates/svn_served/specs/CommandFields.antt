-- The fields of the commands of a report. What is after those named here is passed over.
--     link_fields fields      link-path: a path, a URL, a revision, and whether to start empty
use Rattle.std.specs.Prelude.{ℕ, Bool, List, Option, Some}
use Rattle.svn_wire.specs.declared.token.Token.{Token}
use Rattle.svn_wire.specs.Fields.{◌>>=◌, bool_field, number_field, text_field}

unfoldable pub link_fields : List Token → Option (List ℕ × List ℕ × ℕ × Bool)
link_fields fields = do
  path ← text_field fields
  url ← text_field path.1
  rev ← number_field url.1
  empty ← bool_field rev.1
  Some (path.0, url.0, rev.0, empty.0)
