use Rattle.std.proofs.Common.{sym}
use Rattle.svn_wire.proofs.urls.read_url.Goals as goal

pub returns-in-Some : goal.returns-in-Some
returns-in-Some c = rw (sym c.in-Some.ensures) c.read_after.ensures
