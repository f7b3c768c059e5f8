use Rattle.std.proofs.Common.{nat_eq, ◌≡◌, None, set, sym, ap, subst, ◌∙◌}
use Rattle.std.specs.Map.{remove_entry}
use Rattle.svn_serials.specs.Serials.{IsRising, get}
use Rattle.svn_serials.specs.Slots.{IsFilledAt, held}
use Rattle.svn_serials.specs.declared.slots.Slot.{Slot}
use Rattle.svn_serials.proofs.Held.{get_at, held_take, slot}
use Rattle.svn_serials.proofs.Order.{order_set, rising_held, value_at}
use Rattle.svn_serials.proofs.Pairs.{remove_none}
use Rattle.svn_serials.proofs.Sound.{sound_some, sound_take}
use Rattle.svn_serials.proofs.map.SerialMap.remove.Goals as goal

pub returns-in_default-clause-removed : goal.returns-in_default-clause-removed
returns-in_default-clause-removed g c =
    let none = subst (λ ts. get (held ts) c.args.serial ≡ None) c.as_slice.ensures.value c.in_default.ensures in
    sym (remove_none c.args.serial c.args.self.now (sym (ap (λ es. get es c.args.serial) c.self.view_is) ∙ none))

pub returns-in_default-clause-rising : goal.returns-in_default-clause-rising
returns-in_default-clause-rising g c = subst IsRising c.self.view_is (rising_held c.self.inside.slots.items c.self.invariant.order)

pub overflow_sub-self : goal.overflow_sub-self
overflow_sub-self g c =
    let at = subst (λ ts. IsFilledAt ts c.args.serial c.in-Some.place) c.as_slice.ensures.value c.in-Some.ensures in
    sound_some c.self.inside.slots.items c.self.inside.filled c.args.serial c.in-Some.place c.self.invariant at

pub settle-requires : goal.settle-requires
settle-requires g c =
    let at = subst (λ ts. IsFilledAt ts c.args.serial c.in-Some.place) c.as_slice.ensures.value c.in-Some.ensures in
    rw c.replace-value.ensures.after
    (order_set c.self.inside.slots.items c.in-Some.place (slot c.args.serial None) at.serial c.self.invariant.order)

pub invariant_of-self : goal.invariant_of-self
invariant_of-self g c =
    let ss = c.self.inside.slots.items in
    let at = subst (λ ts. IsFilledAt ts c.args.serial c.in-Some.place) c.as_slice.ensures.value c.in-Some.ensures in
    sound_take ss c.settle.new.slots.items c.self.inside.filled c.args.serial c.in-Some.place c.self.invariant at
    (c.settle.ensures.held ∙ ap (λ s. held (set ss c.in-Some.place s)) c.replace-value.ensures.after
    ∙ held_take c.args.serial ss c.in-Some.place c.self.invariant.order at.within at.serial)
    c.settle.ensures.order c.settle.ensures.ends

pub returns-clause-value : goal.returns-clause-value
returns-clause-value g c =
    let ss = c.self.inside.slots.items in
    let at = subst (λ ts. IsFilledAt ts c.args.serial c.in-Some.place) c.as_slice.ensures.value c.in-Some.ensures in
    ap (λ (s : Slot _). s.value) c.replace-value.ensures.value
    ∙ sym (value_at ss c.in-Some.place c.index_mut.result.now at.within c.index_mut.ensures.value)
    ∙ sym (get_at c.args.serial c.in-Some.place ss c.self.invariant.order at) ∙ ap (λ es. get es c.args.serial) c.self.view_is

pub returns-clause-removed : goal.returns-clause-removed
returns-clause-removed g c =
    let ss = c.self.inside.slots.items in
    let at = subst (λ ts. IsFilledAt ts c.args.serial c.in-Some.place) c.as_slice.ensures.value c.in-Some.ensures in
    c.settle.ensures.held ∙ ap (λ s. held (set ss c.in-Some.place s)) c.replace-value.ensures.after
    ∙ held_take c.args.serial ss c.in-Some.place c.self.invariant.order at.within at.serial
    ∙ ap (remove_entry (nat_eq c.args.serial)) c.self.view_is

pub returns-clause-rising : goal.returns-clause-rising
returns-clause-rising g c = rising_held c.settle.new.slots.items c.settle.ensures.order

pub returns-in_default-clause-was_rising : goal.returns-in_default-clause-was_rising
returns-in_default-clause-was_rising g c = subst IsRising c.self.view_is (rising_held c.self.inside.slots.items c.self.invariant.order)

pub returns-clause-was_rising : goal.returns-clause-was_rising
returns-clause-was_rising g c = subst IsRising c.self.view_is (rising_held c.self.inside.slots.items c.self.invariant.order)
