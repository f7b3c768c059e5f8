use Rattle.svn_folder.specs.declared.step.Step.TheVariants.{Rename}
use Rattle.svn_disk.specs.Spared.{Spares}
use Rattle.svn_disk.specs.Finding.{has_word}
use Rattle.svn_disk.proofs.Sparing.{one_goes_in, own_replaced}
use Rattle.svn_disk.proofs.Ends.{placed_turns}
use Rattle.svn_disk.proofs.doing.Doing.place.Goals as goal

pub returns-clause-spares : goal.returns-clause-spares
returns-clause-spares g c =
    let known = has_word c.args.self.now.known.now in
    let n = c.args.self.now.admin.now.name in
    let now = g.F.Folder.past c.args.folder.now in
    one_goes_in (Spares known n) (Rename c.in_ok-new_file.field-0 c.args.path.now) now (g.F.Folder.past c.rename.new.folder)
    (own_replaced known n c.in_ok-new_file.field-0 c.args.path.now now c.in_ok-new_file.ensures.temporary c.in_ok-is_own_leaf.ensures.own) c.rename.result c.rename.ensures.one

pub returns-clause-ends : goal.returns-clause-ends
returns-clause-ends g c =
    placed_turns c.args.self.now.admin.now.name c.args.number c.in_ok-new_file.field-0 c.args.path.now (g.F.Folder.past c.args.folder.now)
    (g.F.Folder.past c.rename.new.folder) c.rename.result c.in_ok-new_file.ensures.place c.rename.ensures.one
