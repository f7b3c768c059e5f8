use Rattle.std.proofs.Common.{◌≡◌, ◌+◌, ◌∷◌, ◌∙◌, List, drop, subst, sym, ap, arith}
use Rattle.std.proofs.lemmas.List.{drop_more}
use Rattle.svn_lists.proofs.Results.{IfErr_returned}
use Rattle.svn_types.specs.Props.{PropChange}
use Rattle.svn_history.specs.declared.fault.LoadFault.{LoadFault}
use Rattle.svn_history.specs.Results.{Fails}
use Rattle.svn_history.specs.Steps.{IsMade, draft_of, one}
use Rattle.svn_history.specs.Changes.{set_prop, set_props}
use Rattle.svn_history.proofs.Stepping.{made_then, first_fails, next_fails}
use Rattle.svn_history.proofs.records.set_props.Goals as goal

pub returns-in_err-set_prop-clause-fault : goal.returns-in_err-set_prop-clause-fault
returns-in_err-set_prop-clause-fault c =
    let all = c.args.changes.now in
    let i = c.loop-name.name-index in
    let item = c.loop-name-item.result in
    let path = c.args.path.now in
    let here = draft_of c.loop-name.transaction in
    let rest : drop i all ≡ item ∷ drop (i + 1) all =
    drop_more all i item (omega arith) ∙ ap (λ (x : PropChange). x ∷ drop (i + 1) all) (sym c.loop-name-item.is) in
    IfErr_returned (λ e. e ≡ c.in_err-set_prop.field-0.0) (λ e. Fails e (set_props path all (draft_of c.args.transaction.now)))
    c.from_residual.result c.from_residual.ensures
    (λ e is. c.loop-name.invariant.fails e (subst (λ (l : List PropChange). Fails e (set_props path l here)) (sym rest)
    (first_fails (one (set_prop path item)) (set_props path (drop (i + 1) all)) here e
    (subst (λ (x : LoadFault). Fails x (one (set_prop path item) here)) (sym is) c.in_err-set_prop.ensures.fault))))

pub loop-name-preserved : goal.loop-name-preserved
loop-name-preserved c =
    let all = c.args.changes.now in
    let i = c.loop-name.name-index in
    let item = c.loop-name-item.result in
    let path = c.args.path.now in
    let here = draft_of c.loop-name.transaction in
    let there = draft_of c.set_prop.new.transaction in
    let inv = c.loop-name.invariant in
    let rest : drop i all ≡ item ∷ drop (i + 1) all =
    drop_more all i item (omega arith) ∙ ap (λ (x : PropChange). x ∷ drop (i + 1) all) (sym c.loop-name-item.is) in
    record {
      made = λ d h. inv.made d (subst (λ (l : List PropChange). IsMade (set_props path l) here d) (sym rest)
          (made_then (one (set_prop path item)) (set_props path (drop (i + 1) all)) here there d c.in_ok-set_prop.ensures.made h));
      fails = λ e h. inv.fails e (subst (λ (l : List PropChange). Fails e (set_props path l here)) (sym rest)
          (next_fails (one (set_prop path item)) (set_props path (drop (i + 1) all)) here there e c.in_ok-set_prop.ensures.made h));
      history = c.in_ok-set_prop.ensures.history ∙ inv.history;
    }
