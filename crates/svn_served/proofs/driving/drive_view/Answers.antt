use Rattle.std.proofs.Common.{ap}
use Rattle.svn_wire_calls.specs.declared.editor.WireEditor.{WireEditor}
use Rattle.svn_served.specs.declared.client_view.ClientView.{ClientView}
use Rattle.svn_served.specs.declared.notes.Notes.{Notes}
use Rattle.svn_model.specs.Checks.{target_fault}
use Rattle.svn_served.specs.ClientCalls.{client_name}
use Rattle.svn_served.specs.Drives.{noted_drive, input, calls_of}
use Rattle.svn_served.proofs.Drives.{Making, making_keeps, making_holds, drives_keep, leaves_written}
use Rattle.svn_served.proofs.driving.drive_view.Goals as goal

pub returns-clause-written : goal.returns-clause-written
returns-clause-written g c =
    let writer = λ (e : WireEditor g.row.W.Denot g.row.F.Denot Notes). e.writer.ghost_name in
    let contents = λ (e : WireEditor g.row.W.Denot g.row.F.Denot Notes). g.W.Write.contents e.writer.now in
    let teller = λ (e : WireEditor g.row.W.Denot g.row.F.Denot Notes). e.teller in
    let editor = λ (v : ClientView (WireEditor g.row.W.Denot g.row.F.Denot Notes)). v.editor.now in
    let held = λ (v : ClientView (WireEditor g.row.W.Denot g.row.F.Denot Notes)). v.editor.ghost_name in
    let name = λ (v : ClientView (WireEditor g.row.W.Denot g.row.F.Denot Notes)). client_name v.entry.now in
    let texts = λ (v : ClientView (WireEditor g.row.W.Denot g.row.F.Denot Notes)). v.with_texts in
    leaves_written writer contents teller editor held name texts c.args.notes c.args.view.now c.requires.notes (ap client_name c.requires.entry) c.calls_are_written.ensures
    c.drive_request.result c.drive_request.new.editor c.drive_request.ensures.calls

pub returns-clause-same_writer : goal.returns-clause-same_writer
returns-clause-same_writer g c =
    let writer = λ (e : WireEditor g.row.W.Denot g.row.F.Denot Notes). e.writer.ghost_name in
    let contents = λ (e : WireEditor g.row.W.Denot g.row.F.Denot Notes). g.W.Write.contents e.writer.now in
    let teller = λ (e : WireEditor g.row.W.Denot g.row.F.Denot Notes). e.teller in
    let editor = λ (v : ClientView (WireEditor g.row.W.Denot g.row.F.Denot Notes)). v.editor.now in
    let held = λ (v : ClientView (WireEditor g.row.W.Denot g.row.F.Denot Notes)). v.editor.ghost_name in
    let name = λ (v : ClientView (WireEditor g.row.W.Denot g.row.F.Denot Notes)). client_name v.entry.now in
    let texts = λ (v : ClientView (WireEditor g.row.W.Denot g.row.F.Denot Notes)). v.with_texts in
    let d = noted_drive c.args.notes c.args.view.now.with_texts in
    drives_keep (Making writer contents teller editor held name texts) (λ (v : ClientView (WireEditor g.row.W.Denot g.row.F.Denot Notes)). writer (editor v))
    (making_keeps writer contents teller editor held name texts) d.request.options.cancel_after (target_fault (input d)) (calls_of d)
    c.drive_request.result c.args.view.now c.drive_request.new.editor c.drive_request.ensures.calls

pub returns-clause-same_editor : goal.returns-clause-same_editor
returns-clause-same_editor g c =
    let writer = λ (e : WireEditor g.row.W.Denot g.row.F.Denot Notes). e.writer.ghost_name in
    let contents = λ (e : WireEditor g.row.W.Denot g.row.F.Denot Notes). g.W.Write.contents e.writer.now in
    let teller = λ (e : WireEditor g.row.W.Denot g.row.F.Denot Notes). e.teller in
    let editor = λ (v : ClientView (WireEditor g.row.W.Denot g.row.F.Denot Notes)). v.editor.now in
    let held = λ (v : ClientView (WireEditor g.row.W.Denot g.row.F.Denot Notes)). v.editor.ghost_name in
    let name = λ (v : ClientView (WireEditor g.row.W.Denot g.row.F.Denot Notes)). client_name v.entry.now in
    let texts = λ (v : ClientView (WireEditor g.row.W.Denot g.row.F.Denot Notes)). v.with_texts in
    let d = noted_drive c.args.notes c.args.view.now.with_texts in
    drives_keep (Making writer contents teller editor held name texts) held (making_holds writer contents teller editor held name texts)
    d.request.options.cancel_after (target_fault (input d)) (calls_of d) c.drive_request.result c.args.view.now c.drive_request.new.editor
    c.drive_request.ensures.calls
