use Rattle.std.proofs.Common.{rules}
use Rattle.svn_disk.proofs.Going.{syncs_go, stops_there}
use Rattle.svn_disk.proofs.settle.settle.Goals as goal

pub returns-in_err-sync_all-clause-steps : goal.returns-in_err-sync_all-clause-steps
returns-in_err-sync_all-clause-steps g c =
    let stops = (syncs_go (g.F.Folder.past c.args.folder.now.folder) (g.F.Folder.past c.sync_all.new.self.folder) _ c.in_err-sync_all.ensures).1 in search rules

pub returns-then-is_synced-clause-steps : goal.returns-then-is_synced-clause-steps
returns-then-is_synced-clause-steps g c =
    ((syncs_go (g.F.Folder.past c.args.folder.now.folder) (g.F.Folder.past c.sync_all.new.self.folder) _ c.in_ok-sync_all.ensures).0, tt)

pub returns-else-is_synced-clause-steps : goal.returns-else-is_synced-clause-steps
returns-else-is_synced-clause-steps g c =
    (tt, stops_there (syncs_go (g.F.Folder.past c.args.folder.now.folder) (g.F.Folder.past c.sync_all.new.self.folder) _ c.in_ok-sync_all.ensures).0)
