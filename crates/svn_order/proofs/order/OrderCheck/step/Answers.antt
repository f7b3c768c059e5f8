use Rattle.svn_order.proofs.Stepping.{unended, going_answers, going_accepts, going_leaves}
use Rattle.svn_order.proofs.order.OrderCheck.step.Goals as goal

pub returns-in-Before-clause-answers : goal.returns-in-Before-clause-answers
returns-in-Before-clause-answers c =
    going_answers c.args.self.now c.take.new.self c.args.call.now c.take.result (unended c.args.self.now c.in-Before.is) c.take.ensures

pub returns-in-Before-clause-accepted : goal.returns-in-Before-clause-accepted
returns-in-Before-clause-accepted c =
    going_accepts c.args.self.now c.take.new.self c.args.call.now c.take.result (unended c.args.self.now c.in-Before.is) c.take.ensures

pub returns-in-Before-clause-refused : goal.returns-in-Before-clause-refused
returns-in-Before-clause-refused c = going_leaves c.args.self.now c.take.new.self c.args.call.now c.take.result c.take.ensures
