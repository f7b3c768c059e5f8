-- What the steps at a path leave to be done at its close.
--     said_at p steps      the changes and texts among the steps on a path, in order
use Rattle.std.specs.Prelude.{Bool, true, false, ◌&&◌, List, [], ◌∷◌, if◌then◌else◌}
use Rattle.svn_types.specs.Names.{Path}
use Rattle.svn_types.specs.Paths.{path_eq}
use Rattle.svn_editor.specs.Steps.{Action, Change, Text, Step}

-- what is kept until the close
abbrev pub says : Action → Bool
says (Change kind change) = true
says (Text base_md5 text) = true
says _ = false

abbrev pub said_at : Path → List Step → List Action
said_at p [] = []
said_at p (s ∷ steps) = if path_eq s.path p && says s.action then s.action ∷ said_at p steps else said_at p steps
