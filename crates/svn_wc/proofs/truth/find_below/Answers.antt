use Rattle.std.proofs.Common.{sym, ◌∙◌}
use Rattle.svn_wc.proofs.Truly.{found_beside}
use Rattle.svn_wc.proofs.truth.find_below.Goals as goal

pub returns-then-is_step : goal.returns-then-is_step
returns-then-is_step c = λ at id known found named entry.
    let below = c.args.below.now in
    let place = c.in-Some.location in
    found_beside c.args.repo.now c.args.above.now below.node.now place.rev place.repos_path.now at below.path.now below.name id c.args.entry
    (sym c.is_some.ensures ∙ c.if-is_some.true) (c.in-Some.ensures c.args.repo.now)
    (λ at name known is. c.is_step.ensures at name known is c.if-is_step.true) known found named entry
