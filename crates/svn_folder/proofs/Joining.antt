-- What a path is that was made, if it was.
use Rattle.std.proofs.Common.{◌≡◌}
use Rattle.std.specs.Prelude.{Option, Some, None, Result, Ok, Err, IfOk}
use Rattle.svn_types.specs.declared.fault.PathFault.{PathFault}
use Rattle.svn_types.specs.NameFaults.{AnswersPath}

pub value_of : {T : Type 0} (fault : Option PathFault) (value : T) (r : Result T PathFault) → AnswersPath fault value r → IfOk r (λ v. v ≡ value)
value_of None value (Ok v) h = h
value_of None value (Err e) h = tt
value_of (Some f) value (Ok v) h = absurd h
value_of (Some f) value (Err e) h = tt
