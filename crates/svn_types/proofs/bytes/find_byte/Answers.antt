use Rattle.svn_types.proofs.Splits.{first_place}
use Rattle.svn_types.proofs.bytes.find_byte.Goals as goal

pub returns-clause-place : goal.returns-clause-place
returns-clause-place c = first_place c.args.byte c.args.text.now c.memchr.result c.memchr.ensures
