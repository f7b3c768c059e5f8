use Rattle.svn_folder.proofs.Giving.{unknown_copied}
use Rattle.svn_folder.proofs.write_behind.WriteBehindFolder.copy_file.Goals as goal

pub returns-in-Some : goal.returns-in-Some
returns-in-Some g c = unknown_copied c.args.from.now c.args.to.now c.args.mode c.args.modified c.add.result
