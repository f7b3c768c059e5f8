use Rattle.std.proofs.Common.{subst}
use Rattle.svn_lists.proofs.Results.{OnOk_from_both}
use Rattle.svn_served.specs.declared.connection.Phase.TheVariants.{Greeted}
use Rattle.svn_served.specs.Serving.{Goes}
use Rattle.svn_served.proofs.Serving.{is_served}
use Rattle.svn_served.proofs.exchange.serve_items.Goals as goal

pub returns : goal.returns
returns g c =
    let s = c.args.served.now in
    let left = c.go_to_end.new.self.stream in
    let input = g.R.Read.remaining c.args.reader.now in
    let rest = g.R.Read.remaining c.go_to_end.new.reader in
    let greeted = g.W.Write.contents c.write_out.new.writer in
    let output = g.W.Write.contents c.go_to_end.new.writer in
    OnOk_from_both c.go_to_end.result
    (λ goes done.
    is_served s c.go_to_end.new.self.phase left input rest (g.W.Write.contents c.args.writer.now) greeted output c.in_ok-write_out.ensures
    (subst (λ w. Goes s Greeted w c.go_to_end.new.self.phase left input rest greeted output) c.new.ensures goes) done)
    c.go_to_end.ensures.goes c.go_to_end.ensures.done
