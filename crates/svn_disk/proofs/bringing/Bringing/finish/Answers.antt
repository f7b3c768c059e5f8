use Rattle.std.proofs.Common.{List, refl, subst, sym}
use Rattle.std.specs.Prelude.{codes, ⊤}
use Rattle.svn_wcrows.specs.declared.work.Work.{Work}
use Rattle.svn_disk.specs.Places.{is_either}
use Rattle.svn_disk.proofs.Changing.{inside_goes_doing}
use Rattle.svn_disk.specs.Spared.{texts_of_either}
use Rattle.svn_disk.proofs.Sparing.{inside_goes_in}
use Rattle.svn_disk.specs.Tasks.{makings_in, work_nodes}
use Rattle.svn_disk.specs.Ends.{AreCopied, EachDone}
use Rattle.svn_disk.proofs.Ends.{ends_along}
use Rattle.svn_disk.proofs.bringing.Bringing.finish.Goals as goal

pub returns-then-is_empty-clause-steps : goal.returns-then-is_empty-clause-steps
returns-then-is_empty-clause-steps g c =
    inside_goes_doing (codes ".svn") (is_either c.args.self.now.existing.now.copy c.args.self.now.wanted.now.copy) (g.F.Folder.past c.args.folder.now.folder)
    (g.F.Folder.past c.record.new.folder.folder) c.record.result c.record.ensures.steps

pub returns-then-is_empty-clause-spares : goal.returns-then-is_empty-clause-spares
returns-then-is_empty-clause-spares g c =
    inside_goes_in (texts_of_either c.args.self.now.existing.now.tables.pristine.items c.args.self.now.wanted.now.copy) (codes ".svn")
    (g.F.Folder.past c.args.folder.now.folder) (g.F.Folder.past c.record.new.folder.folder) c.record.result c.record.ensures.steps

pub returns-then-is_empty-clause-ends : goal.returns-then-is_empty-clause-ends
returns-then-is_empty-clause-ends g c = λ parted distinct are files noted.
    let copy = c.args.self.now.wanted.now.copy in
    let task = c.args.task.now in
    let none = c.if-is_empty.ensures refl in
    ends_along (λ a b. ⊤) (λ a b. AreCopied (codes ".svn") 0 (work_nodes copy (makings_in task)) a → EachDone copy task.work.items task.work.items b)
    (g.F.Folder.past c.args.folder.now.folder) (g.F.Folder.past c.record.new.folder.folder) c.record.result
    (λ a b nothing copied. subst (λ (xs : List Work). EachDone copy xs xs b) (sym none) tt) (c.record.ensures.ends copy are)
