use Rattle.std.proofs.Common.{◌∙◌, ◌||◌, ap, sym}
use Rattle.std.specs.List.{list_any}
use Rattle.std.proofs.lemmas.List.{take_all}
use Rattle.std.proofs.lemmas.List.Folds.{list_any_at, list_any_more}
use Rattle.svn_answers.specs.Untold.{is_of_root}
use Rattle.svn_answers.proofs.untold.is_any_of_root.Goals as goal

pub returns-then-is_of_root : goal.returns-then-is_of_root
returns-then-is_of_root c =
    let item = c.untrue-item.result in
    sym
    (list_any_at is_of_root c.args.all.now c.loop-untrue.untrue-index item c.loop-untrue-test.true
    (ap is_of_root (sym c.untrue-item.is) ∙ sym c.is_of_root.ensures ∙ c.if-is_of_root.true))

pub loop-untrue-preserved : goal.loop-untrue-preserved
loop-untrue-preserved c =
    let item = c.untrue-item.result in
    list_any_more is_of_root c.args.all.now c.loop-untrue.untrue-index item c.loop-untrue-test.true
    ∙ (λ k. c.loop-untrue.invariant k || (ap is_of_root (sym c.untrue-item.is) ∙ sym c.is_of_root.ensures ∙ c.if-is_of_root.false) k)

pub returns : goal.returns
returns c =
    sym c.loop-untrue.invariant ∙ ap (list_any is_of_root) (take_all c.loop-untrue.untrue-index c.args.all.now c.loop-untrue-test.false)
