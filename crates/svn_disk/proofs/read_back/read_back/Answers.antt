use Rattle.svn_disk.proofs.Reading.{whole_shown}
use Rattle.svn_disk.proofs.read_back.read_back.Goals as goal

pub returns-then-branch : goal.returns-then-branch
returns-then-branch g c =
    whole_shown c.args.admin.now.name c.args.copy.now c.args.image.now (g.F.Folder.past c.args.folder.now) c.requires
    (c.in_ok-has_database.ensures c.if-branch.true) c.in_ok-read_texts.ensures
