use Rattle.std.proofs.Common.{refl, rules}
use Rattle.svn_disk.specs.Places.{text_place}
use Rattle.svn_disk.specs.Ends.{StaysBut, new_text_place}
use Rattle.svn_disk.proofs.Adding.{adds_none, adds_some_none}
use Rattle.svn_disk.proofs.Ends.{turns_none}
use Rattle.svn_disk.proofs.texts.Texts.put_lost.Goals as goal

pub returns-in_err-sum-clause-adds : goal.returns-in_err-sum-clause-adds
returns-in_err-sum-clause-adds g c =
    let none = adds_none c.args.admin.now.name (g.F.Folder.past c.args.folder.now) in
    let some = adds_some_none c.args.admin.now.name (g.F.Folder.past c.args.folder.now) in search rules

pub returns-in_err-has_text-clause-adds : goal.returns-in_err-has_text-clause-adds
returns-in_err-has_text-clause-adds g c =
    let none = adds_none c.args.admin.now.name (g.F.Folder.past c.args.folder.now) in
    let some = adds_some_none c.args.admin.now.name (g.F.Folder.past c.args.folder.now) in search rules

pub returns-then-branch-clause-adds : goal.returns-then-branch-clause-adds
returns-then-branch-clause-adds g c =
    let none = adds_none c.args.admin.now.name (g.F.Folder.past c.args.folder.now) in
    let some = adds_some_none c.args.admin.now.name (g.F.Folder.past c.args.folder.now) in search rules

pub returns-in_err-clone-clause-adds : goal.returns-in_err-clone-clause-adds
returns-in_err-clone-clause-adds g c =
    let none = adds_none c.args.admin.now.name (g.F.Folder.past c.args.folder.now) in
    let some = adds_some_none c.args.admin.now.name (g.F.Folder.past c.args.folder.now) in search rules

pub returns-then-is_none-clause-adds : goal.returns-then-is_none-clause-adds
returns-then-is_none-clause-adds g c =
    let none = adds_none c.args.admin.now.name (g.F.Folder.past c.args.folder.now) in
    let some = adds_some_none c.args.admin.now.name (g.F.Folder.past c.args.folder.now) in search rules

pub returns-then-branch-clause-stays : goal.returns-then-branch-clause-stays
returns-then-branch-clause-stays g c =
    turns_none (StaysBut (new_text_place c.args.admin.now.name) (text_place c.args.admin.now.name c.args.file.1.now)) (g.F.Folder.past c.args.folder.now)
    (λ a r some other apart. refl)
