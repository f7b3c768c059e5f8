use Rattle.std.proofs.Common.{rules, ◌≡◌, ◌∙◌, ◌∷◌, [], refl, sym, ap, subst, arith, Ok, Err}
use Rattle.std.specs.Prelude.{map}
use Rattle.svn_lists.proofs.Parts.{empty_from_length}
use Rattle.svn_editor.specs.Steps.{Change}
use Rattle.svn_model.specs.TreeCalls.{call_at, calls_at}
use Rattle.svn_drive.proofs.VisitRuns.{Run, run_as, call_stopped, call_done, calls_done}
use Rattle.svn_drive.specs.Walking.{limit_of}
use Rattle.svn_drive.proofs.walk.Walk.change_props.Goals as goal

pub loop-change-init : goal.loop-change-init
loop-change-init g c = ([], refl, (omega arith, λ h. h), refl, refl)

pub returns-in_err-make-clause-runs : goal.returns-in_err-make-clause-runs
returns-in_err-make-clause-runs g c =
    let same : c.from_residual.result ≡ Err c.in_err-make.field-0.0 = search rules in
    let step : c.loop-change.change-iterator.rest.items ≡ c.in-Some.change ∷ c.next.new.self.rest.items = search rules in
    let i = rw step at c.loop-change.invariant in
    let all : c.into_iter-change-iterator.result.rest.items ≡ c.args.changes.items = search rules in
    rw same
    (run_as g.E.Editor.answers (limit_of c.args.self.now) _ _ (Err c.in_err-make.field-0.0) c.args.editor.now c.make.new.editor
    c.args.progress.now.made c.make.new.progress.made
    (ap (λ l. calls_at [] 0 c.args.opened.now.token (map (Change c.args.opened.now.kind) l)) (sym all))
    (call_stopped g.E.Editor.answers (limit_of c.args.self.now)
    (calls_at [] 0 c.args.opened.now.token (map (Change c.args.opened.now.kind) c.into_iter-change-iterator.result.rest.items))
    c.args.editor.now c.args.progress.now.made
    (call_at [] 0 c.args.opened.now.token (Change c.args.opened.now.kind c.in-Some.change)) _ c.loop-change.editor c.make.new.editor
    c.loop-change.progress.made c.make.new.progress.made c.in_err-make.field-0.0 (i.0, i.1, i.2, i.3)
    (subst
    (λ x. Run g.E.Editor.answers (limit_of c.args.self.now) (x ∷ [])
    (Err c.in_err-make.field-0.0) c.loop-change.editor c.make.new.editor c.loop-change.progress.made c.make.new.progress.made)
    c.change_call-call.ensures c.in_err-make.ensures.runs)))

pub loop-change-preserved : goal.loop-change-preserved
loop-change-preserved g c =
    let step : c.loop-change.change-iterator.rest.items ≡ c.in-Some.change ∷ c.next.new.self.rest.items = search rules in
    let i = rw step at c.loop-change.invariant in
    let r =
    call_done g.E.Editor.answers (limit_of c.args.self.now)
    (calls_at [] 0 c.args.opened.now.token (map (Change c.args.opened.now.kind) c.into_iter-change-iterator.result.rest.items))
    c.args.editor.now c.args.progress.now.made
    (call_at [] 0 c.args.opened.now.token (Change c.args.opened.now.kind c.in-Some.change))
    (calls_at [] 0 c.args.opened.now.token (map (Change c.args.opened.now.kind) c.next.new.self.rest.items))
    c.loop-change.editor c.make.new.editor c.loop-change.progress.made c.make.new.progress.made (i.0, i.1, i.2, i.3)
    (subst
    (λ x. Run g.E.Editor.answers (limit_of c.args.self.now) (x ∷ [])
    (Ok tt) c.loop-change.editor c.make.new.editor c.loop-change.progress.made c.make.new.progress.made)
    c.change_call-call.ensures c.in_ok-make.ensures.runs) in
    (r.0, r.1, r.2, r.3, c.make.ensures.tokens ∙ i.4)

pub returns-clause-runs : goal.returns-clause-runs
returns-clause-runs g c =
    let none : c.loop-change.change-iterator.rest.items ≡ [] =
    empty_from_length c.loop-change.change-iterator.rest.items c.loop-change.change-iterator.rest.len c.in-None.ensures.steps.0
    c.loop-change.change-iterator.rest.ok.0 in
    let i = rw none at c.loop-change.invariant in
    let all : c.into_iter-change-iterator.result.rest.items ≡ c.args.changes.items = search rules in
    run_as g.E.Editor.answers (limit_of c.args.self.now) _ _ (Ok tt) c.args.editor.now c.loop-change.editor c.args.progress.now.made
    c.loop-change.progress.made (ap (λ l. calls_at [] 0 c.args.opened.now.token (map (Change c.args.opened.now.kind) l)) (sym all))
    (calls_done g.E.Editor.answers (limit_of c.args.self.now)
    (calls_at [] 0 c.args.opened.now.token (map (Change c.args.opened.now.kind) c.into_iter-change-iterator.result.rest.items))
    c.args.editor.now c.args.progress.now.made
    c.loop-change.editor c.loop-change.progress.made (i.0, i.1, i.2, i.3))

pub returns-clause-tokens : goal.returns-clause-tokens
returns-clause-tokens g c = let i = c.loop-change.invariant in i.4
