use Rattle.std.proofs.Common.{refl, ◌∙◌, arith}
use Rattle.svn_served.proofs.Serving.{goes_nowhere, goes_more}
use Rattle.svn_served.proofs.exchange.Serving.go_to_end.Goals as goal

pub items-init : goal.items-init
items-init g c = record { goes = goes_nowhere c.args.self.now.served.now _ _ _ _; served = refl; room = c.requires }

pub returns-then-not-branch-clause-goes : goal.returns-then-not-branch-clause-goes
returns-then-not-branch-clause-goes g c =
    goes_more c.args.self.now.served.now c.items.self.served.now _ c.items.self.phase _ _ c.items.self.stream _ _ (g.R.Read.remaining c.items.reader) _ _
    (g.W.Write.contents c.items.writer) _ c.items.invariant.served c.items.invariant.goes c.in_ok-go_on.ensures.goes

pub items-preserved : goal.items-preserved
items-preserved g c = record {
  goes = goes_more c.args.self.now.served.now c.items.self.served.now _ c.items.self.phase _ _ c.items.self.stream _ _ (g.R.Read.remaining c.items.reader) _
      _ (g.W.Write.contents c.items.writer) _ c.items.invariant.served c.items.invariant.goes c.in_ok-go_on.ensures.goes;
  served = c.in_ok-go_on.ensures.served ∙ c.items.invariant.served;
  room = omega arith;
}
