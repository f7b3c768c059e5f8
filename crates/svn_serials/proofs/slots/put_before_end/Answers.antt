use Rattle.std.proofs.Common.{Some, refl, sym, ap, subst, ◌∙◌}
use Rattle.svn_serials.specs.Slots.{EndsFilled, IsAt, IsGap, IsInOrder, held}
use Rattle.svn_serials.specs.declared.slots.Slot.{Slot}
use Rattle.svn_serials.proofs.Held.{absent, found, held_insert, held_put, slot}
use Rattle.svn_serials.proofs.Order.{ends_insert, ends_set, gap_nowhere, order_insert, order_set, value_at}
use Rattle.svn_serials.proofs.slots.put_before_end.Goals as goal

pub returns-in-Ok-clause-was : goal.returns-in-Ok-clause-was
returns-in-Ok-clause-was g c =
    let ss = c.args.slots.now.items in
    let p = c.in-Ok.place in
    let at : IsAt ss c.args.serial p = subst (λ ts. IsAt ts c.args.serial p) c.as_slice.ensures.value c.in-Ok.ensures in
    ap (λ (s : Slot _). s.value) c.replace-value.ensures.value ∙ sym (value_at ss p c.index_mut.result.now at.0 c.index_mut.ensures.value)
    ∙ sym (found c.args.serial ss p c.requires.order at.0 at.1)

pub returns-in-Ok-clause-put : goal.returns-in-Ok-clause-put
returns-in-Ok-clause-put g c =
    let ss = c.args.slots.now.items in
    let p = c.in-Ok.place in
    let at : IsAt ss c.args.serial p = subst (λ ts. IsAt ts c.args.serial p) c.as_slice.ensures.value c.in-Ok.ensures in
    rw c.replace-value.ensures.after (held_put c.args.serial c.args.value ss p c.requires.order at.0 at.1)

pub returns-in-Ok-clause-order : goal.returns-in-Ok-clause-order
returns-in-Ok-clause-order g c =
    let ss = c.args.slots.now.items in
    let p = c.in-Ok.place in
    let at : IsAt ss c.args.serial p = subst (λ ts. IsAt ts c.args.serial p) c.as_slice.ensures.value c.in-Ok.ensures in
    rw c.replace-value.ensures.after (order_set ss p (slot c.args.serial (Some c.args.value)) at.1 c.requires.order)

pub returns-in-Ok-clause-ends : goal.returns-in-Ok-clause-ends
returns-in-Ok-clause-ends g c =
    rw c.replace-value.ensures.after
    (ends_set c.args.slots.now.items c.in-Ok.place (slot c.args.serial (Some c.args.value)) refl c.requires.ends)

pub returns-in_ok-insert-in-Err-clause-was : goal.returns-in_ok-insert-in-Err-clause-was
returns-in_ok-insert-in-Err-clause-was g c =
    let ss = c.args.slots.now.items in
    let p = c.in-Err.place in
    let gap : IsGap ss c.args.serial p = subst (λ ts. IsGap ts c.args.serial p) c.as_slice.ensures.value c.in-Err.ensures in
    sym (absent c.args.serial ss (gap_nowhere ss c.args.serial p gap))

pub returns-in_ok-insert-in-Err-clause-put : goal.returns-in_ok-insert-in-Err-clause-put
returns-in_ok-insert-in-Err-clause-put g c =
    let ss = c.args.slots.now.items in
    let p = c.in-Err.place in
    let gap : IsGap ss c.args.serial p = subst (λ ts. IsGap ts c.args.serial p) c.as_slice.ensures.value c.in-Err.ensures in
    ap held c.in_ok-insert-in-Err.ensures.items ∙ held_insert c.args.serial c.args.value ss p (λ k before _. gap.1 k before) gap.2

pub returns-in_ok-insert-in-Err-clause-order : goal.returns-in_ok-insert-in-Err-clause-order
returns-in_ok-insert-in-Err-clause-order g c =
    let ss = c.args.slots.now.items in
    let p = c.in-Err.place in
    let gap : IsGap ss c.args.serial p = subst (λ ts. IsGap ts c.args.serial p) c.as_slice.ensures.value c.in-Err.ensures in
    subst IsInOrder (sym c.in_ok-insert-in-Err.ensures.items)
    (order_insert ss p (slot c.args.serial (Some c.args.value)) c.requires.order (λ k before _. gap.1 k before) gap.2)

pub returns-in_ok-insert-in-Err-clause-ends : goal.returns-in_ok-insert-in-Err-clause-ends
returns-in_ok-insert-in-Err-clause-ends g c =
    let ss = c.args.slots.now.items in
    let p = c.in-Err.place in
    let gap : IsGap ss c.args.serial p = subst (λ ts. IsGap ts c.args.serial p) c.as_slice.ensures.value c.in-Err.ensures in
    subst EndsFilled (sym c.in_ok-insert-in-Err.ensures.items)
    (ends_insert ss p (slot c.args.serial (Some c.args.value)) gap.0 refl c.requires.ends)
