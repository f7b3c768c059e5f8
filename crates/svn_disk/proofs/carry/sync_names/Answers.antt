use Rattle.std.proofs.Common.{rules, refl}
use Rattle.svn_disk.proofs.Going.{keeps_more, stops_more, stops_there}
use Rattle.svn_folder.specs.Files.{is_sync}
use Rattle.svn_disk.proofs.carry.sync_names.Goals as goal

pub returns-in_err-clone : goal.returns-in_err-clone
returns-in_err-clone g c = let stops = stops_there c.loop-path.invariant in search rules

pub returns-in_err-take : goal.returns-in_err-take
returns-in_err-take g c = let stops = stops_more c.loop-path.invariant (c.in_err-take.ensures.does.1 is_sync refl) in search rules

pub loop-path-preserved : goal.loop-path-preserved
loop-path-preserved g c = keeps_more c.loop-path.invariant (c.in_ok-take.ensures.does.0 is_sync refl)
