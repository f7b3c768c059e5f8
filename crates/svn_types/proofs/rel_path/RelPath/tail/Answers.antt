use Rattle.std.proofs.Common.{◌≡◌, ◌+◌, ◌≤◌, length, take, ap, sym, subst, ◌∙◌, arith}
use Rattle.svn_types.specs.Names.{Path}
use Rattle.svn_types.specs.PathKeys.{path_key}
use Rattle.svn_types.specs.Forms.{cut_in, path_in, IsCut}
use Rattle.svn_types.specs.declared.cut.Cut.{Cut}
use Rattle.svn_types.proofs.Cuts.{further_right}
use Rattle.svn_types.proofs.rel_path.RelPath.tail.Goals as goal

pub behind-requires-clause-cut : goal.behind-requires-clause-cut
behind-requires-clause-cut c =
    let all = c.self.inside.parts in
    let cut = cut_in c.self.inside.front in
    let view : c.components-names.result.now ≡ path_in cut all = c.components-names.ensures.names ∙ sym c.self.view_is in
    let few : c.args.count ≤ length (path_in cut all) = omega (arith, ap length view, c.if-count-names.false) in
    let front = c.split_at.result.0.now in
    subst (λ (p : Path). IsCut c.in-Some.cut p) (sym c.in_ok-clone-in-Some.ensures.cases)
    (further_right all cut c.in-Some.cut c.args.count few front (c.split_at.ensures.front ∙ ap (take c.args.count) view)
    (c.in-Some.ensures.names ∙ ap (λ (x : Cut). x.names + length front) c.cut.ensures) c.self.invariant.0
    (c.in-Some.ensures.bytes ∙ ap (λ (x : Cut). x.bytes + length (path_key front)) c.cut.ensures))
