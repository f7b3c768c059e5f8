use Rattle.std.proofs.Common.{rules}
use Rattle.svn_disk.proofs.Going.{keeps_more, stops_more}
use Rattle.svn_disk.proofs.doing.Doing.sync_all.Goals as goal

pub returns-in_err-sync_one : goal.returns-in_err-sync_one
returns-in_err-sync_one g c = let stops = stops_more c.loop-directory.invariant c.in_err-sync_one.ensures.1 in search rules

pub loop-directory-preserved : goal.loop-directory-preserved
loop-directory-preserved g c = keeps_more c.loop-directory.invariant c.in_ok-sync_one.ensures.0
