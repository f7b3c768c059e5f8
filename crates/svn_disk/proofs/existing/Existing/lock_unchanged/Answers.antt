use Rattle.std.proofs.Common.{ℕ, List, subst}
use Rattle.std.specs.Prelude.{OnOk}
use Rattle.svn_folder.specs.States.{seen}
use Rattle.svn_disk.specs.Goes.{IsAlways}
use Rattle.svn_disk.specs.Places.{database_place}
use Rattle.svn_disk.specs.Crashes.{HasBytes}
use Rattle.svn_disk.proofs.existing.Existing.lock_unchanged.Goals as goal

pub returns : goal.returns
returns g c =
    subst (λ (n : List ℕ). OnOk c.lock_unchanged.result (IsAlways (λ s. HasBytes c.args.self.now.database (seen s (database_place n))) (g.F.Folder.past c.args.folder.now)))
    c.in_ok-admin.ensures c.lock_unchanged.ensures
