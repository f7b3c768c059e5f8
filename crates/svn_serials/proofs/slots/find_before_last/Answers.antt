use Rattle.std.proofs.Common.{sym, ◌∙◌}
use Rattle.svn_lists.proofs.Options.{none_from_test}
use Rattle.svn_serials.proofs.Held.{absent, found}
use Rattle.svn_serials.proofs.Order.{value_in}
use Rattle.svn_serials.proofs.slots.find_before_last.Goals as goal

pub returns-in_default : goal.returns-in_default
returns-in_default g c = absent c.args.serial c.args.slots.now c.in_default.ensures

pub returns-else-is_some : goal.returns-else-is_some
returns-else-is_some g c =
    let ss = c.args.slots.now in
    let hit = c.in-Some.ensures in
    let at = c.index-slots-place in
    found c.args.serial ss c.in-Some.place c.requires hit.0 hit.1 ∙ value_in ss c.in-Some.place at.result hit.0
    ∙ none_from_test _ (sym c.if-is_some.ensures)
