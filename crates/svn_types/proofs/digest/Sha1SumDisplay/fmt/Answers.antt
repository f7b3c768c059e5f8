use Rattle.std.proofs.Common.{sym, subst}
use Rattle.std.specs.Str.{IsUtf8}
use Rattle.svn_types.proofs.Digests.{digits_utf8}
use Rattle.svn_types.proofs.digest.Sha1SumDisplay.fmt.Goals as goal

pub from_utf8_unchecked-requires : goal.from_utf8_unchecked-requires
from_utf8_unchecked-requires g c = subst IsUtf8 (sym c.digits_of-digits.ensures) (digits_utf8 c.self.inside.0)
