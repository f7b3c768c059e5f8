-- What revisions changed, path by path.
--     changes_of changes r      what revision r changed
use Rattle.std.specs.Prelude.{ℕ, List, [], slice_get, Option, Some, None}
use Rattle.svn_replies.specs.declared.changes.PathChange.{PathChange}

abbrev pub or_none : Option (List PathChange) → List PathChange
or_none None = []
or_none (Some changes) = changes

abbrev pub changes_of : List (List PathChange) → ℕ → List PathChange
changes_of changes r = or_none (slice_get changes r)
