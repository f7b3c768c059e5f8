-- The words of printed lines: how bytes, a path, a token and a checksum are printed. A number is printed as `decimal` of std.
--     word bytes, path_word p, token_word t, checksum_word sum      what is printed
--     spaced words      the words of a line
use Rattle.std.specs.Prelude.{◌/◌, ◌%◌, ℕ, Bool, true, ◌&&◌, not, List, [], ◌∷◌, ◌++◌, nat_le, nat_eq, Option, Some, None}
use Rattle.std.specs.Prelude.{if◌then◌else◌}
use Rattle.std.specs.List.{flat_map}
use Rattle.std.specs.Fmt.{decimal, digit_glyph}
use Rattle.svn_types.specs.Names.{Path}
use Rattle.svn_types.specs.PathTexts.{path_text}
use Rattle.svn_types.specs.Digests.{digest_word}

-- printed as it is: 0x21 to 0x7E but for `%` and `"`
abbrev pub is_shown : ℕ → Bool
is_shown b = nat_le 33 b && nat_le b 126 && not (nat_eq b 37) && not (nat_eq b 34)

-- a byte, or `%` and its two upper-case hexadecimal digits
abbrev pub escaped : ℕ → List ℕ
escaped b = if is_shown b then b ∷ [] else 37 ∷ digit_glyph true (b / 16) ∷ digit_glyph true (b % 16) ∷ []

-- no bytes at all are printed as `""`
abbrev pub word : List ℕ → List ℕ
word [] = 34 ∷ 34 ∷ []
word (b ∷ bs) = flat_map escaped (b ∷ bs)

-- the root is printed as `.`
abbrev pub path_word : Path → List ℕ
path_word [] = 46 ∷ []
path_word (n ∷ p) = word (path_text (n ∷ p))

-- a byte of a path's key in that text: a slash where a name ends
abbrev pub path_byte : ℕ → ℕ
path_byte b = if nat_eq b 1 then 47 else b

-- `#` and the number
abbrev pub token_word : ℕ → List ℕ
token_word t = 35 ∷ decimal t

-- `-` where there is none
abbrev pub checksum_word : Option (List ℕ) → List ℕ
checksum_word None = 45 ∷ []
checksum_word (Some bytes) = digest_word bytes

-- one space between two words
abbrev pub spaced : List (List ℕ) → List ℕ
spaced [] = []
spaced (w ∷ []) = w
spaced (w ∷ v ∷ ws) = w ++ 32 ∷ spaced (v ∷ ws)
