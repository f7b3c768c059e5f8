use Rattle.std.proofs.Common.{subst, sym}
use Rattle.std.specs.Prelude.{OnOk}
use Rattle.svn_wcrows.specs.declared.work.Work.{Work}
use Rattle.svn_disk.specs.Ends.{Turns, IsOneMade}
use Rattle.svn_disk.proofs.doing.Doing.make_one.Goals as goal

pub returns-in-MakeDirectory-clause-ends : goal.returns-in-MakeDirectory-clause-ends
returns-in-MakeDirectory-clause-ends g c =
    subst (λ (x : Work). OnOk c.make_directory_if_none.result (Turns (IsOneMade x) (g.F.Folder.past c.args.folder.now)
    (g.F.Folder.past c.make_directory_if_none.new.folder)))
    (sym c.in-MakeDirectory.is) c.make_directory_if_none.ensures.there
