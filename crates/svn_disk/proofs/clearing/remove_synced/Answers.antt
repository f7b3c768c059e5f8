use Rattle.std.proofs.Common.{[], ◌∷◌, refl, rules}
use Rattle.svn_folder.specs.declared.step.Step.TheVariants.{SyncDirectory}
use Rattle.svn_disk.specs.Places.{is_inside}
use Rattle.svn_disk.proofs.Going.{goes_more, does_goes}
use Rattle.svn_disk.proofs.clearing.remove_synced.Goals as goal

pub returns-in_err-remove_all : goal.returns-in_err-remove_all
returns-in_err-remove_all g c = λ n h. let stops = (c.in_err-remove_all.ensures n h).1 in search rules

pub returns : goal.returns
returns g c = λ n h.
    goes_more (g.F.Folder.past c.take_if.new.folder) c.take_if.result (c.in_ok-remove_all.ensures n h).0
    (does_goes (is_inside n) (SyncDirectory c.root.result ∷ []) (g.F.Folder.past c.remove_all.new.folder) (g.F.Folder.past c.take_if.new.folder) c.take_if.result
    refl c.take_if.ensures.does)
