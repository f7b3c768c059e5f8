use Rattle.std.proofs.lemmas.Str.{IsUtf8-had}
use Rattle.svn_types.proofs.path_key.PathKey.as_str.Goals as goal

pub from_utf8_unchecked-requires : goal.from_utf8_unchecked-requires
from_utf8_unchecked-requires c = rw c.deref.ensures.value (IsUtf8-had _ (rw c.in-Long.is at c.self.invariant))
