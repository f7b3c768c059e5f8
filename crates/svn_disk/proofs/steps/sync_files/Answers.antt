use Rattle.std.proofs.Common.{◌≡◌, true, List, [], ◌∷◌, refl, subst, rules}
use Rattle.std.specs.Prelude.{Result, Ok, Err}
use Rattle.std.specs.List.{list_all}
use Rattle.svn_types.specs.Names.{Path}
use Rattle.svn_folder.specs.declared.fault.FolderFault.{FolderFault}
use Rattle.svn_folder.specs.Files.{TakesAll, is_sync, file_syncs}
use Rattle.svn_disk.proofs.Going.{takes_all}
use Rattle.svn_disk.proofs.steps.sync_files.Goals as goal

all_syncs : (paths : List Path) → list_all is_sync (file_syncs paths) ≡ true
all_syncs [] = refl
all_syncs (p ∷ paths) = all_syncs paths

pub returns-in_err-sync_files : goal.returns-in_err-sync_files
returns-in_err-sync_files g c =
    let stops = (takes_all is_sync (file_syncs c.args.paths.now) (g.F.Folder.past c.args.folder.now) (g.F.Folder.past c.sync_files.new.self)
    (Err c.in_err-sync_files.field-0.0) (all_syncs c.args.paths.now) c.in_err-sync_files.ensures).1 in search rules

pub returns : goal.returns
returns g c =
    takes_all is_sync (file_syncs c.args.paths.now) (g.F.Folder.past c.args.folder.now) (g.F.Folder.past c.sync_files.new.self)
    (Ok c.in_ok-sync_files.field-0) (all_syncs c.args.paths.now) c.in_ok-sync_files.ensures
