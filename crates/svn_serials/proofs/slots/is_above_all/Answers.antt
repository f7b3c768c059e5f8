use Rattle.std.proofs.Common.{Some}
use Rattle.std.proofs.lemmas.Bool.{ltb-true}
use Rattle.svn_serials.proofs.Order.{above_all}
use Rattle.svn_serials.proofs.slots.is_above_all.Goals as goal

pub returns-in-Some : goal.returns-in-Some
returns-in-Some g c = λ yes.
    above_all c.args.slots.now c.requires c.args.serial (Some c.in-Some.last) c.in-Some.ensures (ltb-true c.in-Some.last c.args.serial yes)
