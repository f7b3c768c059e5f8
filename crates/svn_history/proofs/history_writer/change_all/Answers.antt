use Rattle.std.proofs.Common.{◌≡◌, ◌+◌, ◌∷◌, ◌++◌, ◌∙◌, List, take, drop, subst, sym, ap, arith}
use Rattle.std.proofs.lemmas.List.{drop_more, take-append-drop}
use Rattle.svn_lists.proofs.Results.{IfErr_returned}
use Rattle.svn_repo.specs.declared.change.Change.{Change}
use Rattle.svn_repo.specs.History.{History}
use Rattle.svn_history.specs.declared.fault.LoadFault.{LoadFault}
use Rattle.svn_history.specs.Results.{Fails}
use Rattle.svn_history.specs.Steps.{draft_of, begun, one}
use Rattle.svn_history.specs.Writing.{all}
use Rattle.svn_history.proofs.Writings.{first_refused}
use Rattle.svn_history.proofs.history_writer.change_all.Goals as goal

pub returns-in_err-change-clause-fault : goal.returns-in_err-change-clause-fault
returns-in_err-change-clause-fault c =
    let cs = c.args.changes.now in
    let i = c.loop-change.change-index in
    let item = c.change-item.result in
    let rest = drop (i + 1) cs in
    let now = c.loop-change.writer in
    let inv = c.loop-change.invariant in
    let whole : take i cs ++ item ∷ rest ≡ cs =
    ap (λ (l : List Change). take i cs ++ l)
    (sym (drop_more cs i item (omega arith) ∙ ap (λ (x : Change). x ∷ rest) (sym c.change-item.is)))
    ∙ take-append-drop i cs in
    let Q : LoadFault → Type 0 = λ e. Fails e (all cs (begun c.args.writer.now.transaction.history)) in
    IfErr_returned (λ e. e ≡ c.in_err-change.field-0.0) Q c.from_residual.result c.from_residual.ensures
    (λ e is. subst (λ (h : History). Fails e (all cs (begun h))) inv.history
    (subst (λ (l : List Change). Fails e (all l (begun now.transaction.history))) whole
    (first_refused now.transaction.history (take i cs) rest item (draft_of now.transaction) now.bytes e inv.made
    (subst (λ (x : LoadFault). Fails x (one item (draft_of now.transaction))) (sym is) c.in_err-change.ensures.fault))))
