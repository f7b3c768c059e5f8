use Rattle.std.proofs.Common.{◌≡◌, ◌≤◌, length, drop}
use Rattle.svn_model.specs.Sources.{reported, reported_from}
use Rattle.svn_drive.specs.Checking.{seen_as}
use Rattle.svn_drive.proofs.check.Check.seen_at.Given as goal

-- what is left of the names leads on from what is seen to what the report says of all
abbrev pub invariant-loop-name : goal.invariant-loop-name
invariant-loop-name l =
    (reported_from l.self.report.now (seen_as l.seen) (drop l.name-index l.names) ≡ reported l.self.report.now l.names)
    × (l.seen.start ≤ length l.seen.path)
    × (length l.seen.path ≡ l.name-index)
