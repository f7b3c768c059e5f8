-- What the strings of an open file's or directory's pool say: the path by its key, and then what the calls on it are about.
--     changes_said notes strings, texts_said notes strings      the same, read from strings and the notes on them
use Rattle.std.specs.Prelude.{ℕ, Bool, true, false, List, [], ◌∷◌, Option, Some, None}
use Rattle.svn_types.specs.Props.{PropChange}
use Rattle.svn_editor.specs.Steps.{Action, Change, Text}
use Rattle.svn_edit.specs.declared.baton.Note.{Note}
use Rattle.svn_edit.specs.declared.baton.Note.TheVariants.{Set, Remove, Text as NewText}

-- a note of a property
abbrev pub is_change : Note → Bool
is_change NewText = false
is_change _ = true

abbrev pub note_of_value : Option (List ℕ) → Note
note_of_value None = Remove
note_of_value (Some v) = Set

abbrev pub note_of : Action → Note
note_of (Change kind change) = note_of_value change.1
note_of _ = NewText

abbrev pub strings_of_value : Option (List ℕ) → List (List ℕ)
strings_of_value None = []
strings_of_value (Some v) = v ∷ []

abbrev pub strings_of : Action → List (List ℕ)
strings_of (Change kind change) = change.0 ∷ strings_of_value change.1
strings_of (Text base_md5 text) = text ∷ []
strings_of _ = [] ∷ []

-- ---- read from notes and strings

abbrev pub changes_said : List Note → List (List ℕ) → List PropChange
changes_said (Set ∷ notes) (name ∷ value ∷ strings) = (name, Some value) ∷ changes_said notes strings
changes_said (Remove ∷ notes) (name ∷ strings) = (name, None) ∷ changes_said notes strings
changes_said (NewText ∷ notes) (text ∷ strings) = changes_said notes strings
changes_said _ _ = []

abbrev pub texts_said : List Note → List (List ℕ) → List (List ℕ)
texts_said (Set ∷ notes) (name ∷ value ∷ strings) = texts_said notes strings
texts_said (Remove ∷ notes) (name ∷ strings) = texts_said notes strings
texts_said (NewText ∷ notes) (text ∷ strings) = text ∷ texts_said notes strings
texts_said _ _ = []
