use Rattle.std.proofs.Common.{sym, ◌∙◌}
use Rattle.svn_folder.proofs.Several.{unknown_done}
use Rattle.svn_folder.proofs.write_behind.WriteBehindFolder.sync_files.Goals as goal

pub returns-in_err-finish : goal.returns-in_err-finish
returns-in_err-finish g c = unknown_done c.args.paths.now c.from_residual.result (sym c.is_empty.ensures ∙ c.if-is_empty.false)
