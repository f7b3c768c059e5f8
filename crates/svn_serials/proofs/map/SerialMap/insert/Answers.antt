use Rattle.std.proofs.Common.{◌+◌, sym, subst, ◌∙◌, arith}
use Rattle.svn_serials.specs.Slots.{IsSound}
use Rattle.svn_serials.proofs.Held.{length_held}
use Rattle.svn_serials.proofs.Order.{rising_held}
use Rattle.svn_serials.proofs.Sound.{byte_bound, more_of, sound_put}
use Rattle.svn_serials.proofs.map.SerialMap.insert.Goals as goal

pub returns-in_err-was-clause-rising : goal.returns-in_err-was-clause-rising
returns-in_err-was-clause-rising g c = rising_held c.put.new.slots.items c.put.ensures.order

pub overflow_add-self : goal.overflow_add-self
overflow_add-self g c =
    let within = length_held c.self.inside.slots.items in
    let counted = c.self.invariant.counted in
    let byte = byte_bound c.is_none.result in
    let from = c.from.ensures in
    let ok = c.self.inside.slots.ok in
    omega arith

pub invariant_of-self-2 : goal.invariant_of-self-2
invariant_of-self-2 g c =
    let said = c.in_ok-was.ensures in
    let more = c.from.ensures ∙ more_of c.in_ok-was.was' c.is_none.result c.is_none.ensures in
    subst (λ n. IsSound c.put.new.slots.items (c.self.inside.filled + n)) (sym more)
    (sound_put c.self.inside.slots.items c.put.new.slots.items c.self.inside.filled c.args.serial c.args.value
    c.in_ok-was.was' c.self.invariant said.was said.put c.put.ensures.order c.put.ensures.ends)

pub returns-clause-rising : goal.returns-clause-rising
returns-clause-rising g c = rising_held c.put.new.slots.items c.put.ensures.order
