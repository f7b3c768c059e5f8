-- What the value of a column gives.
--     text_given, bytes_given, number_given value      a text; the bytes of a blob or a text; a number from 0 on
use Rattle.std.specs.Prelude.{ℕ, pos, List, Option, Some, None}
use Rattle.sqlite_value.specs.declared.value.Value.{Value}
use Rattle.sqlite_value.specs.declared.value.Value.TheVariants.{Int, Text, Blob}

abbrev pub text_given : Value → Option (List ℕ)
text_given (Text text) = Some text
text_given _ = None

abbrev pub bytes_given : Value → Option (List ℕ)
bytes_given (Text bytes) = Some bytes
bytes_given (Blob bytes) = Some bytes
bytes_given _ = None

abbrev pub number_given : Value → Option ℕ
number_given (Int (pos n)) = Some n
number_given _ = None
