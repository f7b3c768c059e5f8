use Rattle.std.proofs.Common.{ℕ, ◌<◌, length, get_or, Some, refl, sym, ap, subst, ◌∙◌, arith}
use Rattle.std.proofs.lemmas.List.Edits.{insert_end}
use Rattle.svn_serials.specs.Slots.{EndsFilled, IsInOrder, held, serials_of}
use Rattle.svn_serials.proofs.Held.{absent, held_insert, slot}
use Rattle.svn_serials.proofs.Order.{ends_push, order_insert}
use Rattle.svn_serials.proofs.slots.put.Goals as goal

pub returns-clause-was : goal.returns-clause-was
returns-clause-was g c =
    let ss = c.args.slots.now.items in
    let below =
    subst (λ ts. (k : ℕ) → k < length ts → get_or (serials_of ts) k 0 < c.args.serial) c.as_slice.ensures.value
    (c.is_above_all.ensures c.if-not-is_above_all.false) in
    sym (absent c.args.serial ss (λ k within is. let less = below k within in omega arith))

pub returns-clause-put : goal.returns-clause-put
returns-clause-put g c =
    let ss = c.args.slots.now.items in
    let below =
    subst (λ ts. (k : ℕ) → k < length ts → get_or (serials_of ts) k 0 < c.args.serial) c.as_slice.ensures.value
    (c.is_above_all.ensures c.if-not-is_above_all.false) in
    let s = slot c.args.serial (Some c.args.value) in
    ap held (c.in_ok-append.ensures.items ∙ sym (insert_end ss s))
    ∙ held_insert c.args.serial c.args.value ss (length ss) (λ k _ within. below k within) (λ k past within. absurd (omega arith))

pub returns-clause-order : goal.returns-clause-order
returns-clause-order g c =
    let ss = c.args.slots.now.items in
    let below =
    subst (λ ts. (k : ℕ) → k < length ts → get_or (serials_of ts) k 0 < c.args.serial) c.as_slice.ensures.value
    (c.is_above_all.ensures c.if-not-is_above_all.false) in
    let s = slot c.args.serial (Some c.args.value) in
    subst IsInOrder (sym (c.in_ok-append.ensures.items ∙ sym (insert_end ss s)))
    (order_insert ss (length ss) s c.requires.order (λ k _ within. below k within) (λ k past within. absurd (omega arith)))

pub returns-clause-ends : goal.returns-clause-ends
returns-clause-ends g c =
    subst EndsFilled (sym c.in_ok-append.ensures.items) (ends_push c.args.slots.now.items (slot c.args.serial (Some c.args.value)) refl)
