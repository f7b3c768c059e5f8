use Rattle.svn_audit.proofs.PlaceReasons.{reasons_are_of_places}
use Rattle.svn_audit.proofs.laws.reasons_are_of_places.Goals as goal

pub returns : goal.returns
returns c = reasons_are_of_places
