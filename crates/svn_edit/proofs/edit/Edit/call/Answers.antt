use Rattle.svn_edit.proofs.LeftPools.{ended_after, refused_after, going_after}
use Rattle.svn_edit.proofs.edit.Edit.call.Goals as goal

pub returns-in-Ended-clause-pools : goal.returns-in-Ended-clause-pools
returns-in-Ended-clause-pools c = ended_after c.args.mode.now c.args.self.now c.args.copy.now.entries c.args.call.now _ c.in-Ended.is

pub returns-in-Refused-clause-pools : goal.returns-in-Refused-clause-pools
returns-in-Refused-clause-pools c =
    refused_after c.args.mode.now c.args.self.now c.give_up.new.self c.args.copy.now.entries c.args.call.now c.give_up.result c.in-Refused.is
    c.give_up.ensures.left

pub returns-in-Going-clause-pools : goal.returns-in-Going-clause-pools
returns-in-Going-clause-pools c =
    going_after c.args.mode.now c.args.self.now c.take.new.self c.args.copy.now.entries c.args.call.now c.take.result c.in-Going.is c.take.ensures.dead
    c.take.ensures.left
