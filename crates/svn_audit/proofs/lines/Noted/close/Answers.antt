use Rattle.std.proofs.Common.{◌≡◌, ◌≤◌, ◌++◌, None, length, slice_get, sym, ap, ◌∙◌}
use Rattle.std.proofs.lemmas.List.{append-nil}
use Rattle.std.proofs.lemmas.Option.{slice_get_past}
use Rattle.std.specs.Prelude.{nat_lt}
use Rattle.svn_model.specs.Nodes.{get_in}
use Rattle.svn_audit.specs.NotedLines.{line_of_node}
use Rattle.svn_audit.proofs.lines.Noted.close.Goals as goal

pub returns-in-None-clause-lines : goal.returns-in-None-clause-lines
returns-in-None-clause-lines c =
    let lines = c.args.self.now.lines.items in
    let nodes = c.args.self.now.nodes.items in
    let place = c.token.inside.0 in
    let past : length c.deref.result.now ≤ place = c.in-None.ensures.lookup.3 in
    let none : slice_get nodes c.args.token ≡ None =
    ap (slice_get nodes) (sym c.token.view_is) ∙ ap (λ ns. slice_get ns place) (sym c.deref.ensures.value)
    ∙ slice_get_past c.deref.result.now place past in
    sym (ap (λ o. lines ++ line_of_node (get_in c.args.copy.now) (nat_lt c.args.token c.args.self.now.edited) o) none ∙ append-nil lines)
