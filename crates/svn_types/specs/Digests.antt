-- How a checksum is printed.
use Rattle.std.specs.Prelude.{ℕ, List}
use Rattle.hex.specs.Hex.{encode_lower}

-- two lower-case hexadecimal digits of each byte
abbrev pub digest_word : List ℕ → List ℕ
digest_word bytes = encode_lower bytes
