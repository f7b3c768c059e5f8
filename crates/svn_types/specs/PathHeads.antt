-- The head of a path: the first 14 bytes of its key as a number. Paths with unlike heads are ordered as these are.
use Rattle.std.specs.Prelude.{◌≡◌, ℕ, ◌+◌, ◌*◌, ◌<◌, true}
use Rattle.svn_types.specs.LeadingBytes.{IsByteList, leading}
use Rattle.svn_types.specs.Names.{Path}
use Rattle.svn_types.specs.PathKeys.{path_key, is_plain_path}
use Rattle.svn_types.specs.declared.path_head.Head.{Head}

-- the second number has six bytes: 256 ^ 6
abbrev pub second_limit : ℕ
second_limit = 281474976710656

-- both numbers as one
abbrev pub head_number : Head → ℕ
head_number h = h.first * second_limit + h.second

-- the head of a path, and why the order of heads is that of paths: the key is made of bytes, and of plain names
pub record IsHeadOf (p : Path) (head : Head) : Type 0 where
  pub head_is : head_number head ≡ leading 14 (path_key p)
  pub small : head.second < second_limit
  pub bytes : IsByteList (path_key p)
  pub plain : is_plain_path p ≡ true
