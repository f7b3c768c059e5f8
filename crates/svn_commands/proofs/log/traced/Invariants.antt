use Rattle.std.proofs.Common.{List, ◌++◌, drop, max}
use Rattle.svn_commands.specs.declared.history.Segment.{Segment}
use Rattle.svn_commands.specs.Log.{AreTraced}
use Rattle.svn_commands.proofs.log.traced.Given as goal

-- with the segments of the paths that are left these are all
abbrev pub invariant-loop-path : goal.invariant-loop-path
invariant-loop-path l =
    (rest : List Segment)
    → AreTraced l.view.served.now l.asked.wanted.strict (max l.asked.start l.asked.end) (drop l.path-index l.asked.paths.items) rest
    → AreTraced l.view.served.now l.asked.wanted.strict (max l.asked.start l.asked.end) l.asked.paths.items (l.all.items ++ rest)
