use Rattle.std.proofs.Common.{sym, ap, subst, ◌∙◌, rules}
use Rattle.std.proofs.lemmas.List.Elements.{filter_from_retain}
use Rattle.svn_serials.specs.Slots.{EndsFilled, IsInOrder, held}
use Rattle.svn_serials.proofs.Held.{held_filter}
use Rattle.svn_serials.proofs.Order.{ends_filter, has_value, order_filter}
use Rattle.svn_serials.proofs.slots.drop_empty.Goals as goal

pub returns-clause-held : goal.returns-clause-held
returns-clause-held g c =
    let is = filter_from_retain _ has_value
    (λ p x b q k. search rules) _ c.args.slots.now.items c.retain.new.self.items c.retain.ensures.filtered in
    ap held is ∙ held_filter c.args.slots.now.items

pub returns-clause-order : goal.returns-clause-order
returns-clause-order g c =
    let is = filter_from_retain _ has_value
    (λ p x b q k. search rules) _ c.args.slots.now.items c.retain.new.self.items c.retain.ensures.filtered in
    subst IsInOrder (sym is) (order_filter c.args.slots.now.items c.requires)

pub returns-clause-ends : goal.returns-clause-ends
returns-clause-ends g c =
    let is = filter_from_retain _ has_value
    (λ p x b q k. search rules) _ c.args.slots.now.items c.retain.new.self.items c.retain.ensures.filtered in
    subst EndsFilled (sym is) (ends_filter c.args.slots.now.items)
