use Rattle.std.proofs.Common.{sym, ap, ◌∙◌}
use Rattle.std.specs.Ordering.{is_lt}
use Rattle.svn_report.proofs.InOrder.{comes_last}
use Rattle.svn_report.proofs.in_order.comes_last.Goals as goal

pub returns-in-Some-clause-last : goal.returns-in-Some-clause-last
returns-in-Some-clause-last c = λ before.
    comes_last c.args.entries.now.entries c.args.path.now _ c.requires.ordered (sym c.in-Some.ensures.entry) (sym c.lt.ensures ∙ before)

pub returns-in-Some-clause-told : goal.returns-in-Some-clause-told
returns-in-Some-clause-told c = λ last. c.lt.ensures ∙ ap is_lt (last _ _ (sym c.in-Some.ensures.entry))
