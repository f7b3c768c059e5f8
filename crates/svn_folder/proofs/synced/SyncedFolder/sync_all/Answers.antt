use Rattle.std.proofs.Common.{refl}
use Rattle.std.specs.Prelude.{Ok, Err}
use Rattle.svn_folder.specs.declared.step.Step.TheVariants.{SyncDirectory}
use Rattle.svn_folder.proofs.Several.{syncs_chain, one_sync, no_sync, same_fault, files_synced}
use Rattle.svn_folder.proofs.synced.SyncedFolder.sync_all.Goals as goal

pub returns-in_err-files : goal.returns-in_err-files
returns-in_err-files g c = no_sync (g.F.Folder.past c.args.self.now.folder) c.from_residual.result c.from_residual.ensures.0

pub returns-in_err-sync_files : goal.returns-in_err-sync_files
returns-in_err-sync_files g c =
    let old = g.F.Folder.past c.args.self.now.folder in
    let new = g.F.Folder.past c.sync_files.new.self.folder in
    let fault = c.in_err-sync_files.field-0.0 in
    same_fault old new c.from_residual-in_err-sync_files.result fault c.from_residual-in_err-sync_files.ensures.1
    (files_synced c.deref.result.now old new (Err fault) c.in_err-sync_files.ensures)

pub directories-init : goal.directories-init
directories-init g c =
    files_synced c.deref.result.now (g.F.Folder.past c.args.self.now.folder) (g.F.Folder.past c.sync_files.new.self.folder) (Ok tt) c.in_ok-sync_files.ensures

pub returns-in_err-clone : goal.returns-in_err-clone
returns-in_err-clone g c =
    let now = g.F.Folder.past c.directories.self.folder in
    syncs_chain (g.F.Folder.past c.args.self.now.folder) now now c.from_residual-in_err-clone.result c.directories.invariant
    (no_sync now c.from_residual-in_err-clone.result c.from_residual-in_err-clone.ensures.0)

pub returns-in_err-take : goal.returns-in_err-take
returns-in_err-take g c =
    let old = g.F.Folder.past c.args.self.now.folder in
    let now = g.F.Folder.past c.directories.self.folder in
    let new = g.F.Folder.past c.take.new.self.folder in
    let fault = c.in_err-take.field-0.0 in
    same_fault old new c.from_residual-in_err-take.result fault c.from_residual-in_err-take.ensures.1
    (syncs_chain old now new (Err fault) c.directories.invariant (one_sync (SyncDirectory c.in_ok-clone.field-0) now new (Err fault) refl c.in_err-take.ensures))

pub directories-preserved : goal.directories-preserved
directories-preserved g c =
    let now = g.F.Folder.past c.directories.self.folder in
    let new = g.F.Folder.past c.take.new.self.folder in
    syncs_chain (g.F.Folder.past c.args.self.now.folder) now new (Ok tt) c.directories.invariant
    (one_sync (SyncDirectory c.in_ok-clone.field-0) now new (Ok tt) refl c.in_ok-take.ensures)
