use Rattle.std.proofs.Common.{◌≡◌, sym, ap, ◌∙◌, arith}
use Rattle.std.proofs.lemmas.List.{nil_from_length}
use Rattle.std.specs.Prelude.{fold}
use Rattle.svn_wcdb.specs.Sparse.{left_out_after, seen_left_out}
use Rattle.svn_wcdb.proofs.LeftOutLemmas.{all_left_out}
use Rattle.svn_wcdb.proofs.nodes.read_nodes.Goals as goal

pub returns-clause-left_out : goal.returns-clause-left_out
returns-clause-left_out c =
    let takes = c.args.to.now.takes in
    let folder = c.args.to.now.folder.now in
    let none = nil_from_length c.rows.rest.now c.in_default.ensures.cases in
    ap (λ rest. fold (left_out_after takes folder) (seen_left_out c.rows.taken.left_out) rest) (sym none)
    ∙ c.rows.invariant.1
    ∙ all_left_out takes folder c.args.rows.now (omega arith)
