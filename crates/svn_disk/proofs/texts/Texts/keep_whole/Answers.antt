use Rattle.std.proofs.Common.{rules}
use Rattle.svn_disk.proofs.Adding.{adds_none, adds_some_none}
use Rattle.svn_disk.proofs.texts.Texts.keep_whole.Goals as goal

pub returns-in_err-sum-clause-adds : goal.returns-in_err-sum-clause-adds
returns-in_err-sum-clause-adds g c =
    let none = adds_none c.args.admin.now.name (g.F.Folder.past c.args.folder.now) in
    let some = adds_some_none c.args.admin.now.name (g.F.Folder.past c.args.folder.now) in search rules
