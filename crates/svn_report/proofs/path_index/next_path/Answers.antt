use Rattle.std.proofs.Common.{sym, ◌∙◌}
use Rattle.std.specs.Cmp.Lexicographic.{lists_total, nat_list_cmp_total}
use Rattle.svn_types.specs.Names.{path_cmp}
use Rattle.svn_report.proofs.Listings.{next_is, none_after}
use Rattle.svn_report.proofs.path_index.next_path.Goals as goal

pub returns : goal.returns
returns c =
    next_is path_cmp (lists_total nat_list_cmp_total) c.args.paths.now c.args.path.now _ _ c.next.result
    (c.range-after.ensures.in_range tt) c.next.ensures.steps

pub returns-then-le : goal.returns-then-le
returns-then-le c =
    none_after c.args.paths.now c.args.path.now c.in_ok-last.last.now c.in_ok-last.ensures.greatest (sym c.le.ensures ∙ c.if-le.true)
