use Rattle.svn_disk.proofs.InPlace.{in_place}
use Rattle.svn_disk.proofs.laws.what_changes_is_in_place.Goals as goal

pub returns : goal.returns
returns c = in_place
