use Rattle.std.proofs.Common.{rules, ◌≡◌, ◌∙◌, ◌++◌, ◌∷◌, [], ap, append-nil, sym, Ok, Err}
use Rattle.svn_lists.proofs.Results.{OnOk_from}
use Rattle.svn_model.specs.declared.stop.Stop.TheVariants.{Memory}
use Rattle.svn_drive.proofs.RunLemmas.{run_nothing, run_memory}
use Rattle.svn_drive.proofs.FileEnds.{end_closed, end_waits, end_stopped, end_both}
use Rattle.svn_drive.specs.Waiting.{waiting}
use Rattle.svn_drive.proofs.Waits.{file_closed, file_waits}
use Rattle.svn_drive.specs.Walking.{limit_of}
use Rattle.svn_drive.proofs.walk.Walk.end_file.Goals as goal

pub returns-then-not-has_text-clause-runs : goal.returns-then-not-has_text-clause-runs
returns-then-not-has_text-clause-runs g c =
    end_closed c.args.self.now c.args.place.now.here.path c.args.opened.now.node c.texted-file.result c.requires.entered
    c.texted-file.ensures.told g.E.Editor.answers (limit_of c.args.self.now)
    c.args.place.now.parent c.args.opened.now.token c.texted-file.ensures.token c.close_file.result c.args.editor.now
    c.close_file.new.editor c.args.progress.now.made c.close_file.new.progress.made
    (sym c.if-not-has_text.ensures) c.close_file.ensures.runs

pub returns-in_err-postpone-clause-runs : goal.returns-in_err-postpone-clause-runs
returns-in_err-postpone-clause-runs g c =
    let same : c.from_residual.result ≡ Err Memory = search rules in
    rw same
    (end_waits c.args.self.now c.args.place.now.here.path c.args.opened.now.node c.texted-file.result c.requires.entered
    c.texted-file.ensures.told g.E.Editor.answers (limit_of c.args.self.now)
    c.args.place.now.parent c.args.opened.now.token c.texted-file.ensures.token
    (Err Memory) c.args.editor.now c.args.editor.now c.args.progress.now.made c.args.progress.now.made
    c.if-self.true (sym c.if-not-has_text.ensures)
    (run_memory g.E.Editor.answers (limit_of c.args.self.now) _ c.args.editor.now c.args.progress.now.made))

pub returns-then-self-clause-runs : goal.returns-then-self-clause-runs
returns-then-self-clause-runs g c =
    end_waits c.args.self.now c.args.place.now.here.path c.args.opened.now.node c.texted-file.result c.requires.entered
    c.texted-file.ensures.told g.E.Editor.answers (limit_of c.args.self.now)
    c.args.place.now.parent c.args.opened.now.token c.texted-file.ensures.token
    (Ok tt) c.args.editor.now c.args.editor.now c.args.progress.now.made c.args.progress.now.made
    c.if-self.true (sym c.if-not-has_text.ensures)
    (run_nothing g.E.Editor.answers (limit_of c.args.self.now) c.args.editor.now c.args.progress.now.made)

pub returns-in_err-give_text-clause-runs : goal.returns-in_err-give_text-clause-runs
returns-in_err-give_text-clause-runs g c =
    let same : c.from_residual-in_err-give_text.result ≡ Err c.in_err-give_text.field-0.0 = search rules in
    rw same
    (end_stopped c.args.self.now c.args.place.now.here.path c.args.opened.now.node c.texted-file.result c.requires.entered
    c.texted-file.ensures.told g.E.Editor.answers (limit_of c.args.self.now)
    c.args.place.now.parent c.args.opened.now.token c.texted-file.ensures.token c.in_err-give_text.field-0.0 c.args.editor.now
    c.give_text.new.editor c.args.progress.now.made c.give_text.new.progress.made
    c.if-self.false (sym c.if-not-has_text.ensures) c.in_err-give_text.ensures.runs)

pub returns-clause-runs : goal.returns-clause-runs
returns-clause-runs g c =
    end_both c.args.self.now c.args.place.now.here.path c.args.opened.now.node c.texted-file.result c.requires.entered
    c.texted-file.ensures.told g.E.Editor.answers (limit_of c.args.self.now)
    c.args.place.now.parent c.args.opened.now.token c.texted-file.ensures.token c.close_file-2.result c.args.editor.now
    c.give_text.new.editor c.close_file-2.new.editor
    c.args.progress.now.made c.give_text.new.progress.made c.close_file-2.new.progress.made
    c.if-self.false (sym c.if-not-has_text.ensures) c.in_ok-give_text.ensures.runs c.close_file-2.ensures.runs

pub returns-then-not-has_text-clause-waits : goal.returns-then-not-has_text-clause-waits
returns-then-not-has_text-clause-waits g c =
    let none =
    file_closed c.args.self.now c.args.place.now.here.path c.args.opened.now.node c.texted-file.result c.requires.entered
    c.texted-file.ensures.told
    c.args.place.now.parent c.args.opened.now.token c.texted-file.ensures.token (sym c.if-not-has_text.ensures) in
    OnOk_from c.close_file.result (sym (ap (λ l. waiting c.args.self.now.repo.now c.args.later.now.items ++ l) none
    ∙ append-nil (waiting c.args.self.now.repo.now c.args.later.now.items)))

pub returns-then-self-clause-waits : goal.returns-then-self-clause-waits
returns-then-self-clause-waits g c =
    let put : c.postpone.new.later.items ≡ c.args.later.now.items ++ (c.texted-file.result ∷ []) = search rules in
    ap (waiting c.args.self.now.repo.now) put
    ∙ file_waits c.args.self.now c.args.place.now.here.path c.args.opened.now.node c.texted-file.result c.requires.entered
    c.texted-file.ensures.told
    c.args.place.now.parent c.args.opened.now.token c.texted-file.ensures.token c.if-self.true
    (sym c.if-not-has_text.ensures) c.args.later.now.items
