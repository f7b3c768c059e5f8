use Rattle.std.proofs.Common.{◌||◌, sym, ap, ◌∙◌}
use Rattle.svn_types.specs.Paths.{path_eq}
use Rattle.svn_report.proofs.InOrder.{taken_more, taken_without}
use Rattle.svn_report.proofs.path_index.PathIndex.of.Goals as goal

pub insert-requires : goal.insert-requires
insert-requires c =
    c.loop-i.invariant c.in-Some.path.now ∙ taken_without c.args.entries.now.entries c.loop-i.i _ c.requires (sym c.in-Some.ensures.entry)

pub loop-i-preserved : goal.loop-i-preserved
loop-i-preserved c = λ q.
    c.in_ok-insert.ensures.added q
    ∙ ap (λ b. path_eq c.in-Some.path.now q || b) (c.loop-i.invariant q)
    ∙ sym (taken_more c.args.entries.now.entries c.loop-i.i _ q (sym c.in-Some.ensures.entry))
