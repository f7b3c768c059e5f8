use Rattle.std.proofs.lemmas.Str.{IsUtf8-had}
use Rattle.svn_types.proofs.small_text.SmallText.as_str.Goals as goal

pub from_utf8_unchecked-requires : goal.from_utf8_unchecked-requires
from_utf8_unchecked-requires c = rw c.as_slice.ensures (IsUtf8-had _ (rw c.in-Short.is at c.self.invariant))
