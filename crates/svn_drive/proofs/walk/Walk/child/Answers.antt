use Rattle.std.specs.Option.{option_copied}
use Rattle.svn_types.specs.Paths.{child}
use Rattle.svn_drive.specs.Parts.{entries_in}
use Rattle.svn_drive.proofs.Parts.{own_part}
use Rattle.svn_drive.proofs.walk.Walk.child.Goals as goal

pub child_seen-requires-clause-here : goal.child_seen-requires-clause-here
child_seen-requires-clause-here c =
    c.child-here.ensures.seen c.args.self.now.report.now c.args.below.now.name.now c.in_ok-path.ensures
    (own_part c.args.self.now.report.now.entries c.law.ensures (child c.args.above.now.here.path c.args.below.now.name.now)
    (entries_in c.args.below.now.reported) c.requires.below.reported c.in_ok-path.path c.child-here.result.path
    (option_copied c.split_own.result.0) (entries_in c.split_own.result.1) c.in_ok-path.ensures c.child-here.ensures.path
    c.split_own.ensures.own c.split_own.ensures.others).0

pub child_seen-requires-clause-reported : goal.child_seen-requires-clause-reported
child_seen-requires-clause-reported c =
    (own_part c.args.self.now.report.now.entries c.law.ensures (child c.args.above.now.here.path c.args.below.now.name.now)
    (entries_in c.args.below.now.reported) c.requires.below.reported c.in_ok-path.path c.child-here.result.path
    (option_copied c.split_own.result.0) (entries_in c.split_own.result.1) c.in_ok-path.ensures c.child-here.ensures.path
    c.split_own.ensures.own c.split_own.ensures.others).1
