-- Questions about what a repository has at a path in a revision, and the commands that ask them.
--     question wanted rev path      the command that asks it of a path of the repository in a revision
--     question_len wanted rev path      how many bytes it has
use Rattle.std.specs.Prelude.{ℕ, List, [], ◌∷◌, ◌++◌, length, codes}
use Rattle.svn_types.specs.Names.{Path}
use Rattle.svn_types.specs.PathTexts.{path_text}
use Rattle.svn_wire.specs.declared.token.Token.{Token}
use Rattle.svn_wire.specs.declared.token.Token.TheVariants.{Open, Close, Number, Word, Text}
use Rattle.svn_wire.specs.Writing.{word_bytes, number_bytes, text_bytes, printed}
use Rattle.svn_ask.specs.declared.question.Wanted.{Wanted}
use Rattle.svn_ask.specs.declared.question.Wanted.TheVariants as wanted

abbrev pub command_name : Wanted → List ℕ
command_name wanted.File = codes "get-file"
command_name wanted.Directory = codes "get-dir"
command_name wanted.Kind = codes "check-path"

-- properties, and no text; properties, entries, and of each entry the kind
abbrev pub flags : Wanted → List Token
flags wanted.File = Word (codes "true") ∷ Word (codes "false") ∷ []
flags wanted.Directory = Word (codes "true") ∷ Word (codes "true") ∷ Open ∷ Word (codes "kind") ∷ Close ∷ []
flags wanted.Kind = []

-- a command on a path in a revision
abbrev pub command_at : List ℕ → ℕ → Path → List Token → List Token
command_at name rev path more =
    Open ∷ Word name ∷ Open ∷ Text (path_text path) ∷ Open ∷ Number rev ∷ Close ∷ more ++ (Close ∷ Close ∷ [])

abbrev pub question : Wanted → ℕ → Path → List Token
question wanted rev path = command_at (command_name wanted) rev path (flags wanted)

-- the command as bytes, where those after path and revision are given
unfoldable pub command_bytes : List ℕ → ℕ → Path → List ℕ → List ℕ
command_bytes name rev path more =
    (codes "( " ++ word_bytes name ++ codes "( ") ++ text_bytes (path_text path) ++ (codes "( " ++ number_bytes rev ++ codes ") ") ++ more ++ codes ") ) "

abbrev pub question_len : Wanted → ℕ → Path → ℕ
question_len wanted rev path = length (printed (question wanted rev path))
