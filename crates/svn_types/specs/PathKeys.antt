-- The key of a path: its names in one text, the byte 1 after each. As no name has a byte below 32, the order of keys is that of paths.
use Rattle.std.specs.Prelude.{ℕ, Bool, ◌&&◌, List, [], ◌∷◌, ◌++◌, length, nat_le}
use Rattle.std.specs.List.{list_all}
use Rattle.svn_types.specs.Names.{Path, is_plain}

abbrev pub path_key : Path → List ℕ
path_key [] = []
path_key (n ∷ p) = n ++ 1 ∷ path_key p

-- not empty, and without the byte 1
abbrev pub is_plain_name : List ℕ → Bool
is_plain_name n = nat_le 1 (length n) && list_all is_plain n

abbrev pub is_plain_path : Path → Bool
is_plain_path p = list_all is_plain_name p
