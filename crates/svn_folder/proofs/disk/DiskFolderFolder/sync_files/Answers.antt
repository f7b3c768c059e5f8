use Rattle.std.proofs.Common.{sym, ◌∙◌}
use Rattle.svn_folder.proofs.Several.{unknown_done}
use Rattle.svn_folder.proofs.disk.DiskFolderFolder.sync_files.Goals as goal

pub returns : goal.returns
returns g c = unknown_done c.args.paths.now c.sync_batches.result (sym c.is_empty.ensures ∙ c.if-is_empty.false)
