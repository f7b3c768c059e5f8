use Rattle.svn_wire_calls.proofs.Images.{images_are_one}
use Rattle.svn_wire_calls.proofs.laws.images_are_one.Goals as goal

pub returns : goal.returns
returns c = images_are_one
