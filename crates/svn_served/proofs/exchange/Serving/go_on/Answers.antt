use Rattle.std.proofs.Common.{ap}
use Rattle.std.specs.Option.{option_map}
use Rattle.svn_served.proofs.Serving.{goes_nowhere, goes_taken, goes_read, done_read}
use Rattle.svn_served.proofs.exchange.Serving.go_on.Goals as goal

pub returns-then-is_over-clause-goes : goal.returns-then-is_over-clause-goes
returns-then-is_over-clause-goes g c = goes_nowhere c.args.self.now.served.now _ _ _ _

pub returns-in_ok-take_item-in-Some-clause-goes : goal.returns-in_ok-take_item-in-Some-clause-goes
returns-in_ok-take_item-in-Some-clause-goes g c =
    goes_taken c.args.self.now.served.now _ _ c.args.self.now.stream c.next_item.new.stream _ (option_map (λ v. v.items) c.in_ok-item.field-0)
    c.in-Some.item.items c.deref.result.now _ _ _ c.in_ok-item.ensures (ap (option_map (λ v. v.items)) c.in-Some.is) c.deref.ensures.value
    c.in_ok-take_item-in-Some.ensures.stream c.in_ok-take_item-in-Some.ensures.taken

pub returns-in-None-clause-goes : goal.returns-in-None-clause-goes
returns-in-None-clause-goes g c =
    goes_read c.args.self.now.served.now c.read_on.result _ _ c.args.self.now.stream c.next_item.new.stream _
    (option_map (λ v. v.items) c.in_ok-item.field-0) _ _ _ _ c.in_ok-item.ensures (ap (option_map (λ v. v.items)) c.in-None.is) c.read_on.ensures.phase
    c.read_on.ensures.came c.read_on.ensures.written

pub returns-in-None-clause-done : goal.returns-in-None-clause-done
returns-in-None-clause-done g c =
    done_read c.args.self.now.served.now c.read_on.result _ c.args.self.now.stream c.next_item.new.stream _
    (option_map (λ v. v.items) c.in_ok-item.field-0) _ _ c.in_ok-item.ensures (ap (option_map (λ v. v.items)) c.in-None.is) c.read_on.ensures.came
