-- A script as bytes: its lines, their words, and what a word means.
--     lines_of script      its lines
--     words_of line      the words of a line, those that are between spaces
--     bytes_of word, path_of word, prop_name_of word      what a word means, or nothing where it hasn't this form; numbers are those of svn_digits
use Rattle.std.specs.Prelude.{ℕ, ◌+◌, ◌*◌, List, [], ◌∷◌, nat_eq, bytes_eq, filter}
use Rattle.std.specs.Prelude.{Option, Some, None, option_map, option_and_then, is_some, if◌then◌else◌}
use Rattle.std.specs.List.{slice_split}
use Rattle.std.specs.Str.{is_utf8}
use Rattle.hex.specs.Hex.{hex_digit_value}
use Rattle.svn_types.specs.Names.{Path, path_of_text}
use Rattle.svn_types.specs.NameFaults.{path_fault, prop_name_fault}
use Rattle.svn_digits.specs.Numbers.{has_bytes}

-- ---- lines

-- a line without the carriage return at its end
abbrev pub without_return : List ℕ → List ℕ
without_return [] = []
without_return (b ∷ []) = if nat_eq b 13 then [] else b ∷ []
without_return (b ∷ c ∷ bs) = b ∷ without_return (c ∷ bs)

-- a carriage return is dropped before a line feed alone, so the last line keeps its own
abbrev pub without_returns : List (List ℕ) → List (List ℕ)
without_returns [] = []
without_returns (l ∷ []) = l ∷ []
without_returns (l ∷ m ∷ ls) = without_return l ∷ without_returns (m ∷ ls)

abbrev pub lines_of : List ℕ → List (List ℕ)
lines_of script = without_returns (slice_split (λ b. nat_eq b 10) script)

-- ---- words

abbrev pub words_of : List ℕ → List (List ℕ)
words_of line = filter has_bytes (slice_split (λ b. nat_eq b 32) line)

-- ---- bytes

-- the byte of two hexadecimal digits of either case
abbrev pub hex_byte : ℕ → ℕ → Option ℕ
hex_byte high low = option_and_then (λ h. option_map (λ l. h * 16 + l) (hex_digit_value low)) (hex_digit_value high)

-- a byte that means itself
abbrev pub own_byte : ℕ → Option ℕ
own_byte b = if nat_eq b 37 then None else Some b

-- one more byte in front
abbrev pub onto : Option ℕ → Option (List ℕ) → Option (List ℕ)
onto None bytes = None
onto (Some b) None = None
onto (Some b) (Some bs) = Some (b ∷ bs)

-- a percent sign and two hexadecimal digits mean a byte, and every other byte means itself
abbrev pub unescaped : List ℕ → Option (List ℕ)
unescaped [] = Some []
unescaped (b ∷ []) = onto (own_byte b) (Some [])
unescaped (b ∷ c ∷ []) = onto (own_byte b) (unescaped (c ∷ []))
unescaped (b ∷ c ∷ d ∷ bs) =
    if nat_eq b 37 then onto (hex_byte c d) (unescaped bs)
    else onto (Some b) (unescaped (c ∷ d ∷ bs))

-- `""` is the word of no bytes
abbrev pub bytes_of : List ℕ → Option (List ℕ)
bytes_of word = if bytes_eq word (34 ∷ 34 ∷ []) then Some [] else unescaped word

-- ---- paths

abbrev pub path_of_names : Path → Option Path
path_of_names p = if is_some (path_fault p) then None else Some p

-- the root is `.` or no bytes
abbrev pub path_of_bytes : List ℕ → Option Path
path_of_bytes bytes =
    if bytes_eq bytes (46 ∷ []) then Some []
    else if is_utf8 bytes then path_of_names (path_of_text bytes)
    else None

abbrev pub path_of : List ℕ → Option Path
path_of word = option_and_then path_of_bytes (bytes_of word)

-- ---- names of properties

abbrev pub prop_name_of_bytes : List ℕ → Option (List ℕ)
prop_name_of_bytes bytes = if is_some (prop_name_fault bytes) then None else Some bytes

abbrev pub prop_name_of : List ℕ → Option (List ℕ)
prop_name_of word = option_and_then prop_name_of_bytes (bytes_of word)
