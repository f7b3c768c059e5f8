-- Tokens, each ended by a space or a line feed; more of these may be before it.
--     token_at most bytes      the token at the front, whose string has at most so many bytes, and what is after the space that ends it
use Rattle.std.specs.Prelude.{ℕ, Bool, ◌||◌, List, [], ◌∷◌, length, take, drop, nat_lt, nat_eq, Option, Some, None, Result, Ok, Err, if◌then◌else◌}
use Rattle.std.specs.List.{prefix_len, take_while}
pub use Rattle.svn_types.specs.Names.{is_letter}
use Rattle.svn_digits.specs.Numbers.{is_digit, number_of}
use Rattle.svn_wire.specs.declared.fault.Malformed.TheVariants.{BadByte, NoSpace, NumberTooLarge, WordTooLong, TextTooLong}
use Rattle.svn_wire.specs.declared.fault.Stop.{Stop}
use Rattle.svn_wire.specs.declared.fault.Stop.TheVariants.{More, Bad}
use Rattle.svn_wire.specs.declared.parts.Class.{Class}
use Rattle.svn_wire.specs.declared.parts.Class.TheVariants as class
use Rattle.svn_wire.specs.declared.token.Token.{Token}
use Rattle.svn_wire.specs.declared.token.Token.TheVariants.{Open, Close, Number, Word, Text}
use Rattle.svn_wire.specs.Reading.{◌>>=◌}

-- ---- bytes

abbrev pub is_space : ℕ → Bool
is_space b = nat_eq b 32 || nat_eq b 10

abbrev pub is_word_byte : ℕ → Bool
is_word_byte b = is_letter b || is_digit b || nat_eq b 45

abbrev pub is_of : Class → ℕ → Bool
is_of class.Space b = is_space b
is_of class.Digit b = is_digit b
is_of class.Word b = is_word_byte b

-- ---- tokens

-- the token, if a space is after it
abbrev pub ended : Token → List ℕ → Result (Token × List ℕ) Stop
ended t [] = Err More
ended t (b ∷ bs) = if is_space b then Ok (t, bs) else Err (Bad NoSpace)

-- the string of so many bytes
abbrev pub text_at : ℕ → ℕ → List ℕ → Result (Token × List ℕ) Stop
text_at most len bytes =
    if nat_lt most len then Err (Bad TextTooLong)
    else if nat_lt (length bytes) len then Err More
    else ended (Text (take len bytes)) (drop len bytes)

-- a number, or where a colon is after it, the string of so many bytes
abbrev pub after_number : ℕ → ℕ → List ℕ → Result (Token × List ℕ) Stop
after_number most n [] = Err More
after_number most n (b ∷ bs) = if nat_eq b 58 then text_at most n bs else ended (Number n) (b ∷ bs)

abbrev pub or_too_large : Option ℕ → Result ℕ Stop
or_too_large None = Err (Bad NumberTooLarge)
or_too_large (Some n) = Ok n

unfoldable pub number_at : ℕ → List ℕ → Result (Token × List ℕ) Stop
number_at most bytes = do
  n ← or_too_large (number_of (take_while is_digit bytes))
  after_number most n (drop (prefix_len is_digit bytes) bytes)

-- the most bytes of a word
abbrev pub max_word : ℕ
max_word = 24

unfoldable pub word_at : List ℕ → Result (Token × List ℕ) Stop
word_at bytes =
    if nat_lt max_word (length (take_while is_word_byte bytes)) then Err (Bad WordTooLong)
    else ended (Word (take_while is_word_byte bytes)) (drop (prefix_len is_word_byte bytes) bytes)

unfoldable pub token_from : ℕ → List ℕ → Result (Token × List ℕ) Stop
token_from most [] = Err More
token_from most (b ∷ bs) =
    if nat_eq b 40 then ended Open bs
    else if nat_eq b 41 then ended Close bs
    else if is_digit b then number_at most (b ∷ bs)
    else if is_letter b then word_at (b ∷ bs)
    else Err (Bad BadByte)

abbrev pub token_at : ℕ → List ℕ → Result (Token × List ℕ) Stop
token_at most bytes = token_from most (drop (prefix_len is_space bytes) bytes)
