use Rattle.svn_ask.proofs.CourseLemmas.{pieces_join}
use Rattle.svn_ask.proofs.laws.pieces_join.Goals as goal

pub returns : goal.returns
returns c = pieces_join
