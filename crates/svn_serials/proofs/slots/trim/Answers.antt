use Rattle.std.proofs.Common.{sym, subst, ◌∙◌, length, ◌-◌, Some, ◌≡◌}
use Rattle.std.specs.List.{slice_get}
use Rattle.std.specs.Option.{option_to_list}
use Rattle.svn_serials.specs.Slots.{IsInOrder}
use Rattle.svn_serials.proofs.Held.{held_popped}
use Rattle.svn_serials.proofs.Order.{order_front}
use Rattle.svn_serials.proofs.slots.trim.Goals as goal

pub end-preserved-else-is_some-2 : goal.end-preserved-else-is_some-2
end-preserved-else-is_some-2 g c =
    let ss = c.end.slots.items in
    let ts = c.pop.new.self.items in
    let last : Some c.in-Some.last.now ≡ slice_get ss (length ss - 1) =
    subst (λ us. Some c.in-Some.last.now ≡ slice_get us (length us - 1)) c.deref.ensures.value c.in-Some.ensures.value in
    record {
      held = held_popped ss ts c.in-Some.last.now last (sym c.if-is_some.ensures) c.pop.result c.pop.ensures.items ∙ c.end.invariant.held;
      order = order_front ts (option_to_list c.pop.result) (subst IsInOrder c.pop.ensures.items c.end.invariant.order);
    }
