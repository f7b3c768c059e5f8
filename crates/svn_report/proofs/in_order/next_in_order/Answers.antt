use Rattle.std.proofs.Common.{sym, ◌∙◌, rules, of_calls}
use Rattle.std.proofs.lemmas.Fn.{always_returns_same}
use Rattle.std.specs.Ordering.{is_le}
use Rattle.svn_types.specs.Names.{path_cmp}
use Rattle.svn_report.proofs.InOrder.{parted, le_parts, next_at, next_past}
use Rattle.svn_report.proofs.in_order.next_in_order.Goals as goal

pub returns-then-le : goal.returns-then-le
returns-then-le c =
    next_past c.args.entries.now.entries c.args.path.now _ c.requires.ordered (sym c.in_ok-last.ensures.entry) (sym c.le.ensures ∙ c.if-le.true)

pub returns : goal.returns
returns c =
    let es = c.args.entries.now.entries in
    let p = c.args.path.now in
    let parts = parted es (λ q. is_le (path_cmp q p)) c.requires.ordered (le_parts p) in
    next_at es p c.partition_point-i.result _ c.requires.ordered c.requires.lawful
    (c.partition_point-i.ensures.partitioned (λ e. is_le (path_cmp e.0 p)) (always_returns_same _ _ _ (λ a r f k. search (rules, of_calls))) parts)
    c.path_at.ensures
