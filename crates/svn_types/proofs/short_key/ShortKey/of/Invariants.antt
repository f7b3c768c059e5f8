use Rattle.std.proofs.Common.{◌≡◌, ◌++◌, drop, IsUtf8}
use Rattle.svn_types.specs.PathKeys.{path_key, is_plain_path}
use Rattle.svn_types.proofs.short_key.ShortKey.of.Given as goal

-- the key so far, which is a text, and that of the names that are left, which are as plain as all of them
abbrev pub invariant-loop-name : goal.invariant-loop-name
invariant-loop-name g l =
    (l.bytes ++ path_key (drop l.name-index l.names) ≡ path_key l.names)
    × (is_plain_path (drop l.name-index l.names) ≡ is_plain_path l.names)
    × ∥ IsUtf8 l.bytes ∥₁
