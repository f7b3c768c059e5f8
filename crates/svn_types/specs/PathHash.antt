-- Equal paths are hashed alike.
use Rattle.std.specs.Prelude.{◌≡◌, IsTrue, nat_eq}
use Rattle.std.specs.Cmp.Lexicographic.{pointwise, pointwise_decides, bytes_decides}
use Rattle.std.specs.Hash.{slice, str}
use Rattle.std.proofs.Common.{ap}
use Rattle.svn_types.specs.Names.{Path}

pub same_path_hash : (p q : Path) → IsTrue (pointwise (pointwise nat_eq) p q) → slice str p ≡ slice str q
same_path_hash p q same = ap (λ (r : Path). slice str r) ((pointwise_decides bytes_decides p q).0 same)
