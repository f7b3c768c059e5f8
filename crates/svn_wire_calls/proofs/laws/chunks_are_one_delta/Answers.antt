use Rattle.svn_wire_calls.proofs.Chunks.{chunks_are_one_delta}
use Rattle.svn_wire_calls.proofs.laws.chunks_are_one_delta.Goals as goal

pub returns : goal.returns
returns c = chunks_are_one_delta
