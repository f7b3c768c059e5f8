use Rattle.std.proofs.Common.{arith, sym, ◌∙◌}
use Rattle.svn_commands.proofs.Backwards.{older_step}
use Rattle.svn_commands.proofs.history.first_here.Goals as goal

pub loop-first-preserved : goal.loop-first-preserved
loop-first-preserved c = record {
  same = older_step c.args.served.now c.line_at-line.result c.loop-first.first c.args.path.now c.loop-first-test.true (sym c.is_older.ensures ∙ c.if-is_older.true)
      ∙ c.loop-first.invariant.same;
  before = omega arith;
}
