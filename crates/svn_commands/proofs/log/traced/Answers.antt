use Rattle.std.proofs.Common.{◌+◌, List, get_or, drop, max, ap, arith, ◌∙◌}
use Rattle.std.proofs.lemmas.List.{drop_all}
use Rattle.svn_types.specs.Names.{Path}
use Rattle.svn_commands.proofs.Logged.{at_front, one_traced, all_traced}
use Rattle.svn_commands.proofs.log.traced.Goals as goal

pub loop-path-preserved : goal.loop-path-preserved
loop-path-preserved c =
    let asked = c.args.asked.now in
    let paths = asked.paths.items in
    let i = c.loop-path.path-index in
    let one = c.in_ok-push_traced.ensures in
    let is = c.path-item.is ∙ ap (λ (l : List Path). get_or l i c.path-item.result) c.deref-path-items.ensures.value in
    one_traced c.args.view.served.now asked.wanted.strict (max asked.start asked.end) c.path-item.result (drop i paths) (drop (i + 1) paths) paths
    c.loop-path.all.items c.push_traced.new.all.items one.0 c.loop-path.invariant (at_front paths i c.path-item.result (omega arith) is)
    one.1 one.2

pub returns : goal.returns
returns c =
    let asked = c.args.asked.now in
    let paths = asked.paths.items in
    all_traced c.args.view.served.now asked.wanted.strict (max asked.start asked.end) (drop c.loop-path.path-index paths) paths c.loop-path.all.items
    c.loop-path.invariant (drop_all c.loop-path.path-index paths (omega arith))
