-- Commands of the protocol.
--     command name fields      the command of that name
--     baton token      a token as the client names it
use Rattle.std.specs.Prelude.{ℕ, List, ◌++◌, codes}
use Rattle.std.specs.Fmt.{decimal}
use Rattle.svn_wire.specs.Writing.{word_bytes, text_bytes}

unfoldable pub command : List ℕ → List ℕ → List ℕ
command name fields = codes "( " ++ word_bytes name ++ codes "( " ++ fields ++ codes ") ) "

abbrev pub baton : ℕ → List ℕ
baton token = text_bytes (decimal token)
