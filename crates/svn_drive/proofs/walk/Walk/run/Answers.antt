use Rattle.std.proofs.Common.{rules, ◌≡◌, ◌∙◌, ◌∷◌, [], refl, ap, subst, Err}
use Rattle.svn_editor.specs.declared.call.Call.TheVariants.{CloseEdit}
use Rattle.svn_drive.specs.Counts.{with_last}
use Rattle.svn_drive.specs.Waiting.{waiting, visit_late}
use Rattle.svn_drive.specs.Walking.{request_of, late_texts_of, limit_of}
use Rattle.svn_drive.proofs.VisitRuns.{Run}
use Rattle.svn_drive.proofs.WholeRuns.{Whole, lates_as, run_refused, run_visit_stopped, run_late_stopped, run_late, run_in_place}
use Rattle.svn_drive.proofs.walk.Walk.run.Goals as goal
use Rattle.svn_drive.proofs.walk.Walk.run.Goals.{then-self+in_ok-give_late, else-self}

pub returns-in_err-make : goal.returns-in_err-make
returns-in_err-make g c =
    let same : c.from_residual.result ≡ Err c.in_err-make.field-0.0 = search rules in
    let whole =
    run_refused g.E.Editor.answers (limit_of c.args.self.now)
    (request_of c.args.self.now) (late_texts_of c.args.self.now) c.args.editor.now c.args.progress.now.made
    c.in_err-make.field-0.0 c.make.new.editor c.make.new.progress.made c.in_err-make.ensures.runs in
    record { runs = rw same whole.0; before_last = rw same whole.1 }

pub returns-in_err-visit_root : goal.returns-in_err-visit_root
returns-in_err-visit_root g c =
    let same : c.from_residual-in_err-visit_root.result ≡ Err c.in_err-visit_root.field-0.0 = search rules in
    let whole =
    run_visit_stopped g.E.Editor.answers (limit_of c.args.self.now)
    (request_of c.args.self.now) (late_texts_of c.args.self.now) c.args.editor.now c.args.progress.now.made
    c.in_err-visit_root.field-0.0 [] 0 c.make.new.progress.next c.make.new.editor c.visit_root.new.editor
    c.make.new.progress.made c.visit_root.new.progress.made
    refl refl (c.make.ensures.tokens ∙ c.requires) c.in_ok-make.ensures.runs c.in_err-visit_root.ensures.runs in
    record { runs = rw same whole.0; before_last = rw same whole.1 }

pub returns-in_err-give_late : goal.returns-in_err-give_late
returns-in_err-give_late g c =
    let same : c.from_residual-in_err-give_late.result ≡ Err c.in_err-give_late.field-0.0 = search rules in
    let first = c.make.ensures.tokens ∙ c.requires in
    let lates : waiting c.args.self.now.repo.now c.deref.result.now ≡ visit_late (request_of c.args.self.now) (late_texts_of c.args.self.now) [] 0 0 =
    ap (waiting c.args.self.now.repo.now) c.deref.ensures.value
    ∙ lates_as (request_of c.args.self.now) (late_texts_of c.args.self.now) c.args.self.now.repo.now c.new-later.result.items c.visit_root.new.later.items
    [] 0 c.make.new.progress.next
    c.new-later.ensures.items refl refl first c.in_ok-visit_root.ensures.waits in
    let whole =
    run_late_stopped g.E.Editor.answers (limit_of c.args.self.now)
    (request_of c.args.self.now) (late_texts_of c.args.self.now) c.args.editor.now c.args.progress.now.made
    [] 0 c.make.new.progress.next c.make.new.editor c.visit_root.new.editor c.make.new.progress.made
    c.visit_root.new.progress.made
    refl refl first c.in_ok-make.ensures.runs c.in_ok-visit_root.ensures.runs
    c.in_err-give_late.field-0.0 (waiting c.args.self.now.repo.now c.deref.result.now) c.give_late.new.editor c.give_late.new.progress.made
    lates c.in_err-give_late.ensures.runs in
    record { runs = rw same whole.0; before_last = rw same whole.1 }

pub returns : goal.returns
returns g c =
    let first = c.make.ensures.tokens ∙ c.requires in
    let lates =
    lates_as (request_of c.args.self.now) (late_texts_of c.args.self.now) c.args.self.now.repo.now c.new-later.result.items c.visit_root.new.later.items
    [] 0 c.make.new.progress.next
    c.new-later.ensures.items refl refl first c.in_ok-visit_root.ensures.waits in
    let limit = (limit_of c.args.self.now) in
    let d = request_of c.args.self.now in
    let late = (late_texts_of c.args.self.now) in
    let made = c.args.progress.now.made in
    let end = c.if-self.progress.made in
    let whole : Whole g.E.Editor.answers limit d late c.args.editor.now made c.make_last.result c.make_last.new.editor end =
    elim c.if-self.branch [
      | then-self+in_ok-give_late w ↦
          rw w.progress-is
          (run_late g.E.Editor.answers limit d late c.args.editor.now made
          [] 0 c.make.new.progress.next c.make.new.editor c.visit_root.new.editor
          c.make.new.progress.made c.visit_root.new.progress.made
          refl refl first c.in_ok-make.ensures.runs c.in_ok-visit_root.ensures.runs
          c.make_last.result (waiting c.args.self.now.repo.now w.deref.result.now) w.give_late.new.editor c.make_last.new.editor
          w.give_late.new.progress.made
          (ap (waiting c.args.self.now.repo.now) w.deref.ensures.value ∙ lates) w.in_ok-give_late.ensures.runs
          (subst
          (λ e. Run g.E.Editor.answers limit (CloseEdit ∷ []) c.make_last.result e c.make_last.new.editor
          w.give_late.new.progress.made (with_last c.make_last.result w.give_late.new.progress.made))
          w.editor-is
          (rw w.progress-is at c.make_last.ensures.runs))
          c.make_last.ensures.has_number)
      | else-self w ↦
          rw w.progress-is
          (run_in_place g.E.Editor.answers limit d late c.args.editor.now made
          [] 0 c.make.new.progress.next c.make.new.editor c.visit_root.new.editor
          c.make.new.progress.made c.visit_root.new.progress.made
          refl refl first c.in_ok-make.ensures.runs c.in_ok-visit_root.ensures.runs
          c.make_last.result c.make_last.new.editor w.if-self.false
          (subst
          (λ e. Run g.E.Editor.answers limit (CloseEdit ∷ []) c.make_last.result e c.make_last.new.editor
          c.visit_root.new.progress.made (with_last c.make_last.result c.visit_root.new.progress.made))
          w.editor-is
          (rw w.progress-is at c.make_last.ensures.runs))
          c.make_last.ensures.has_number)
    ] in
    record { runs = whole.0; before_last = whole.1 }
