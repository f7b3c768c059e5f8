use Rattle.std.proofs.Common.{sym, ap, ◌∙◌, rules}
use Rattle.std.specs.Prelude.{is_some}
use Rattle.svn_disk.proofs.Adding.{adds_none, adds_some_none, adds_there}
use Rattle.svn_disk.proofs.EndsTexts.{held_there, held_after, newly_kept, again_kept}
use Rattle.svn_disk.proofs.texts.Texts.keep_listed.Goals as goal

pub returns-in_err-sum-clause-adds : goal.returns-in_err-sum-clause-adds
returns-in_err-sum-clause-adds g c =
    let none = adds_none c.args.admin.now.name (g.F.Folder.past c.args.folder.now) in
    let some = adds_some_none c.args.admin.now.name (g.F.Folder.past c.args.folder.now) in search rules

pub returns-in-Some-clause-adds : goal.returns-in-Some-clause-adds
returns-in-Some-clause-adds g c =
    let none = adds_none c.args.admin.now.name (g.F.Folder.past c.args.folder.now) in
    let some = adds_some_none c.args.admin.now.name (g.F.Folder.past c.args.folder.now) in search rules

pub returns-in_err-insert-clause-adds : goal.returns-in_err-insert-clause-adds
returns-in_err-insert-clause-adds g c = let stops = adds_there c.in_ok-put_lost.ensures.adds.0 in search rules

pub returns-in-Some-clause-ends : goal.returns-in-Some-clause-ends
returns-in-Some-clause-ends g c = again_kept c.args.admin.now.name c.args.self.now.sizes.entries c.args.file.1.now (g.F.Folder.past c.args.folder.now)

pub returns-in-Some-clause-held : goal.returns-in-Some-clause-held
returns-in-Some-clause-held g c =
    held_there c.args.self.now.sizes.entries c.args.file.1.now c.in_ok-sum.sum c.sum.inside.0 c.in_ok-sum.ensures.sum c.sum.view_is
    (sym (ap is_some c.in-Some.ensures.value))

pub returns-clause-ends : goal.returns-clause-ends
returns-clause-ends g c =
    newly_kept c.args.admin.now.name c.args.self.now.sizes.entries c.args.file.1.now c.in_ok-sum.sum c.sum.inside.0 (g.F.Folder.past c.args.folder.now)
    (g.F.Folder.past c.put_lost.new.folder) c.in_ok-sum.ensures.sum c.sum.view_is (sym c.in_default.ensures.value) c.in_ok-put_lost.ensures.stays

pub returns-clause-held : goal.returns-clause-held
returns-clause-held g c =
    held_there c.insert.new.self.entries c.args.file.1.now c.in_ok-sum.sum c.sum.inside.0 c.in_ok-sum.ensures.sum c.sum.view_is
    (ap is_some c.in_ok-insert.ensures.updates.1)

pub returns-clause-others : goal.returns-clause-others
returns-clause-others g c = λ name held.
    (held.0, held.1, ap is_some (c.in_ok-insert.ensures.updates.0 held.0) ∙ held_after c.args.size _ _ held.2)
