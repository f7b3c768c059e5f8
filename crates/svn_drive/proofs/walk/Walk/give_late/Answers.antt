use Rattle.std.proofs.Common.{rules, ◌≡◌, ◌∙◌, ◌+◌, ◌<◌, ◌∷◌, [], ap, sym, length, drop, Err}
use Rattle.std.proofs.lemmas.List.{drop_more}
use Rattle.svn_drive.specs.Waiting.{waiting}
use Rattle.svn_drive.specs.Walking.{text_action, close_action, limit_of}
use Rattle.svn_model.specs.TreeCalls.{call_at}
use Rattle.svn_drive.proofs.VisitRuns.{call_stopped, call_done}
use Rattle.svn_drive.proofs.walk.Walk.give_late.Goals as goal

pub returns-in_err-give_text : goal.returns-in_err-give_text
returns-in_err-give_text g c =
    let inside : c.loop-file.file-index < length c.args.later.now = search rules in
    let step : drop c.loop-file.file-index c.args.later.now ≡ c.file-item.result ∷ drop (c.loop-file.file-index + 1) c.args.later.now =
    drop_more c.args.later.now c.loop-file.file-index c.file-item.result inside
    ∙ ap (λ x. x ∷ drop (c.loop-file.file-index + 1) c.args.later.now) (sym c.file-item.is) in
    let same : c.from_residual.result ≡ Err c.in_err-give_text.field-0.0 = search rules in
    let i = rw step at c.loop-file.invariant in
    record {
      runs = rw same
          (call_stopped g.E.Editor.answers (limit_of c.args.self.now)
          (waiting c.args.self.now.repo.now c.args.later.now) c.args.editor.now c.args.progress.now.made
          (call_at [] 0 c.file-item.result.token (text_action c.args.self.now.repo.now c.file-item.result)) _ c.loop-file.editor
          c.give_text.new.editor c.loop-file.progress.made c.give_text.new.progress.made
          c.in_err-give_text.field-0.0 (i.0, i.1, i.2, i.3) c.in_err-give_text.ensures.runs);
    }

pub returns-in_err-close_file : goal.returns-in_err-close_file
returns-in_err-close_file g c =
    let inside : c.loop-file.file-index < length c.args.later.now = search rules in
    let step : drop c.loop-file.file-index c.args.later.now ≡ c.file-item.result ∷ drop (c.loop-file.file-index + 1) c.args.later.now =
    drop_more c.args.later.now c.loop-file.file-index c.file-item.result inside
    ∙ ap (λ x. x ∷ drop (c.loop-file.file-index + 1) c.args.later.now) (sym c.file-item.is) in
    let same : c.from_residual-in_err-close_file.result ≡ Err c.in_err-close_file.field-0.0 = search rules in
    let i = rw step at c.loop-file.invariant in
    let r =
    call_done g.E.Editor.answers (limit_of c.args.self.now) (waiting c.args.self.now.repo.now c.args.later.now) c.args.editor.now
    c.args.progress.now.made
    (call_at [] 0 c.file-item.result.token (text_action c.args.self.now.repo.now c.file-item.result)) _ c.loop-file.editor
    c.give_text.new.editor c.loop-file.progress.made c.give_text.new.progress.made
    (i.0, i.1, i.2, i.3) c.in_ok-give_text.ensures.runs in
    record {
      runs = rw same
          (call_stopped g.E.Editor.answers (limit_of c.args.self.now)
          (waiting c.args.self.now.repo.now c.args.later.now) c.args.editor.now c.args.progress.now.made
          (call_at [] 0 c.file-item.result.token (close_action c.args.self.now.repo.now c.file-item.result)) _ c.give_text.new.editor
          c.close_file.new.editor c.give_text.new.progress.made c.close_file.new.progress.made
          c.in_err-close_file.field-0.0 r c.in_err-close_file.ensures.runs);
    }

pub loop-file-preserved : goal.loop-file-preserved
loop-file-preserved g c =
    let inside : c.loop-file.file-index < length c.args.later.now = search rules in
    let step : drop c.loop-file.file-index c.args.later.now ≡ c.file-item.result ∷ drop (c.loop-file.file-index + 1) c.args.later.now =
    drop_more c.args.later.now c.loop-file.file-index c.file-item.result inside
    ∙ ap (λ x. x ∷ drop (c.loop-file.file-index + 1) c.args.later.now) (sym c.file-item.is) in
    let i = rw step at c.loop-file.invariant in
    let r =
    call_done g.E.Editor.answers (limit_of c.args.self.now) (waiting c.args.self.now.repo.now c.args.later.now) c.args.editor.now
    c.args.progress.now.made
    (call_at [] 0 c.file-item.result.token (text_action c.args.self.now.repo.now c.file-item.result)) _ c.loop-file.editor
    c.give_text.new.editor c.loop-file.progress.made c.give_text.new.progress.made
    (i.0, i.1, i.2, i.3) c.in_ok-give_text.ensures.runs in
    call_done g.E.Editor.answers (limit_of c.args.self.now) (waiting c.args.self.now.repo.now c.args.later.now) c.args.editor.now
    c.args.progress.now.made
    (call_at [] 0 c.file-item.result.token (close_action c.args.self.now.repo.now c.file-item.result))
    (waiting c.args.self.now.repo.now (drop (c.loop-file.file-index + 1) c.args.later.now))
    c.give_text.new.editor c.close_file.new.editor c.give_text.new.progress.made c.close_file.new.progress.made
    r c.in_ok-close_file.ensures.runs
