use Rattle.std.proofs.Common.{◌≡◌, subst, sym, rules}
use Rattle.std.specs.Prelude.{OnOk}
use Rattle.svn_wcrows.specs.declared.work.Work.{Work}
use Rattle.svn_disk.specs.Crashes.{OfText}
use Rattle.svn_disk.specs.Tasks.{work_node}
use Rattle.svn_disk.specs.Ends.{Turns, CopiesNode, IsHeld, IsNoted, files_at, files_of}
use Rattle.svn_disk.proofs.Adding.{adds_none, adds_some_none}
use Rattle.svn_disk.proofs.bringing.Bringing.prepare_one.Goals as goal

pub returns-in-MakeDirectory-clause-adds : goal.returns-in-MakeDirectory-clause-adds
returns-in-MakeDirectory-clause-adds g c =
    let none = adds_none c.args.self.now.admin.now.name (g.F.Folder.past c.args.folder.now) in
    let some = adds_some_none c.args.self.now.admin.now.name (g.F.Folder.past c.args.folder.now) in search rules

pub returns-in-InstallFile-clause-file : goal.returns-in-InstallFile-clause-file
returns-in-InstallFile-clause-file g c =
    subst (λ (x : Work). OnOk c.prepare_file.result (files_at (work_node c.args.self.now.wanted.now.copy x) ≡ files_of x)) (sym c.in-InstallFile.is)
    c.prepare_file.ensures.file

pub returns-in-InstallFile-clause-held : goal.returns-in-InstallFile-clause-held
returns-in-InstallFile-clause-held g c =
    subst (λ (x : Work). OnOk c.prepare_file.result (OfText (IsHeld c.prepare_file.new.keeping.texts.sizes.entries) (work_node c.args.self.now.wanted.now.copy x)))
    (sym c.in-InstallFile.is) c.prepare_file.ensures.held

pub returns-in-InstallFile-clause-noted : goal.returns-in-InstallFile-clause-noted
returns-in-InstallFile-clause-noted g c =
    subst (λ (x : Work). OnOk c.prepare_file.result (IsNoted c.prepare_file.new.keeping.sizes.entries x)) (sym c.in-InstallFile.is) c.prepare_file.ensures.noted

pub returns-in-InstallFile-clause-ends : goal.returns-in-InstallFile-clause-ends
returns-in-InstallFile-clause-ends g c =
    subst (λ (x : Work). OnOk c.prepare_file.result (Turns (CopiesNode c.args.self.now.admin.now.name c.args.work.1 (IsHeld c.args.keeping.now.texts.sizes.entries)
    (work_node c.args.self.now.wanted.now.copy x)) (g.F.Folder.past c.args.folder.now) (g.F.Folder.past c.prepare_file.new.folder)))
    (sym c.in-InstallFile.is) c.prepare_file.ensures.ends
