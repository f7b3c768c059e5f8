use Rattle.std.proofs.Common.{rules, ◌≡◌, refl, Err}
use Rattle.std.specs.Prelude.{map}
use Rattle.svn_types.specs.Props.{changes_between}
use Rattle.svn_repo.specs.Readings.{props_of}
use Rattle.svn_editor.specs.Steps.{Change}
use Rattle.svn_model.specs.Tree.{enter_action, old_props}
use Rattle.svn_drive.specs.Walking.{request_of, limit_of}
use Rattle.svn_model.specs.declared.stop.Stop.TheVariants.{Memory}
use Rattle.svn_drive.proofs.RunLemmas.{run_memory}
use Rattle.svn_drive.proofs.VisitRuns.{entry_refused, entry_made}
use Rattle.svn_drive.proofs.walk.Walk.enter.Goals as goal

pub returns-in_err-make_opening-clause-runs : goal.returns-in_err-make_opening-clause-runs
returns-in_err-make_opening-clause-runs g c =
    let same : c.from_residual-in_err-make_opening.result ≡ Err c.in_err-make_opening.field-0.0 = search rules in
    rw same
    (entry_refused g.E.Editor.answers (limit_of c.args.self.now) c.args.place.now.here.path c.args.place.now.parent c.args.opened.now.token
    (enter_action (request_of c.args.self.now) c.args.place.now.here.path c.args.opened.now.kind) c.in_ok-call.call c.in_ok-call.ensures
    c.args.editor.now c.args.progress.now.made
    (map (Change c.args.opened.now.kind) (changes_between (old_props (request_of c.args.self.now) c.args.place.now.here.path)
    (props_of c.args.self.now.repo.now c.args.opened.now.node)))
    c.in_err-make_opening.field-0.0 c.make_opening.new.editor c.make_opening.new.progress.made c.in_err-make_opening.ensures.runs)

pub returns-in_err-changes-clause-runs : goal.returns-in_err-changes-clause-runs
returns-in_err-changes-clause-runs g c =
    let same : c.from_residual-in_err-changes.result ≡ Err Memory = search rules in
    let all =
    changes_between (old_props (request_of c.args.self.now) c.args.place.now.here.path)
    (props_of c.args.self.now.repo.now c.args.opened.now.node) in
    rw same
    (entry_made g.E.Editor.answers (limit_of c.args.self.now) c.args.place.now.here.path c.args.place.now.parent c.args.opened.now.token
    (enter_action (request_of c.args.self.now) c.args.place.now.here.path c.args.opened.now.kind) c.in_ok-call.call c.in_ok-call.ensures
    c.args.editor.now
    c.args.progress.now.made c.args.opened.now.kind all all refl (Err Memory) c.make_opening.new.editor c.make_opening.new.editor
    c.make_opening.new.progress.made c.make_opening.new.progress.made c.in_ok-make_opening.ensures.runs
    (run_memory g.E.Editor.answers (limit_of c.args.self.now) _ c.make_opening.new.editor c.make_opening.new.progress.made))

pub returns-clause-runs : goal.returns-clause-runs
returns-clause-runs g c =
    entry_made g.E.Editor.answers (limit_of c.args.self.now) c.args.place.now.here.path c.args.place.now.parent c.args.opened.now.token
    (enter_action (request_of c.args.self.now) c.args.place.now.here.path c.args.opened.now.kind) c.in_ok-call.call c.in_ok-call.ensures
    c.args.editor.now c.args.progress.now.made
    c.args.opened.now.kind c.in_ok-changes.changes.items (changes_between
    (old_props (request_of c.args.self.now) c.args.place.now.here.path) (props_of c.args.self.now.repo.now c.args.opened.now.node))
    c.in_ok-changes.ensures c.change_props.result c.make_opening.new.editor c.change_props.new.editor c.make_opening.new.progress.made
    c.change_props.new.progress.made
    c.in_ok-make_opening.ensures.runs c.change_props.ensures.runs
