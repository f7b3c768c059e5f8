use Rattle.std.proofs.Common.{◌∙◌, ap, sym, [], take, get_or, Some}
use Rattle.std.proofs.lemmas.Bool.{false≢true}
use Rattle.std.proofs.lemmas.List.{take_all}
use Rattle.svn_model.specs.Nodes.{get_in}
use Rattle.svn_answers.specs.Entries.{path_of}
use Rattle.svn_answers.proofs.Entries.{found_at, skipped_next}
use Rattle.svn_answers.proofs.entry.root_path.Goals as goal

pub returns-then-is_root : goal.returns-then-is_root
returns-then-is_root c =
    let item = c.loop-path-item.result in
    let is = c.loop-path-item.is in
    c.repos_path.ensures
    ∙ ap (λ e. path_of (Some e.1)) is
    ∙ ap path_of
    (sym
    (found_at c.args.nodes.now c.loop-path.path-index item c.loop-path-test.true c.loop-path.invariant
    (ap (λ e. e.0) (sym is) ∙ c.is_root.ensures.0 c.if-is_root.true)))

pub loop-path-preserved : goal.loop-path-preserved
loop-path-preserved c =
    let item = c.loop-path-item.result in
    let is = c.loop-path-item.is in
    skipped_next c.args.nodes.now c.loop-path.path-index item c.loop-path-test.true c.loop-path.invariant
    (λ root. absurd (false≢true (sym c.if-is_root.false ∙ c.is_root.ensures.1 (ap (λ e. e.0) is ∙ root))))

pub returns : goal.returns
returns c = ap path_of (sym c.loop-path.invariant ∙ ap (λ l. get_in l []) (take_all c.loop-path.path-index c.args.nodes.now c.loop-path-test.false))
