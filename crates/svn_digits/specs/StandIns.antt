-- What is in place of a text, where texts are only compared.
--     stand_in_of sum      `$sha1$` and a SHA-1 checksum in lower-case hexadecimal digits
--     stand_in text      that of the text's checksum
--     stand_in_of_md5 sum, md5_stand_in text      the same with `$md5$` and the MD5 checksum
--     is_stand_in bytes      whether the bytes have that form
use Rattle.std.specs.Prelude.{ℕ, Bool, ◌&&◌, ◌||◌, List, ◌++◌, length, take, drop, nat_eq, bytes_eq, codes}
use Rattle.std.specs.List.{list_all}
use Rattle.md5.specs.Md5.{md5}
use Rattle.sha1.specs.Sha1.{sha1}
use Rattle.hex.specs.Hex.{encode_lower}
use Rattle.svn_types.specs.Names.{is_between}

abbrev pub stand_in_of : List ℕ → List ℕ
stand_in_of sum = codes "$sha1$" ++ encode_lower sum

abbrev pub stand_in : List ℕ → List ℕ
stand_in text = stand_in_of (sha1 text)

abbrev pub stand_in_of_md5 : List ℕ → List ℕ
stand_in_of_md5 sum = codes "$md5$" ++ encode_lower sum

abbrev pub md5_stand_in : List ℕ → List ℕ
md5_stand_in text = stand_in_of_md5 (md5 text)

abbrev pub is_lower_digit : ℕ → Bool
is_lower_digit b = is_between 48 57 b || is_between 97 102 b

abbrev pub is_stand_in : List ℕ → Bool
is_stand_in bytes = nat_eq (length bytes) 46 && bytes_eq (take 6 bytes) (codes "$sha1$") && list_all is_lower_digit (drop 6 bytes)
