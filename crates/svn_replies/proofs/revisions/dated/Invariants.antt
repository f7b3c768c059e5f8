use Rattle.std.proofs.Common.{◌≡◌}
use Rattle.svn_replies.specs.Commands.{dated}
use Rattle.svn_replies.proofs.revisions.dated.Given as goal

-- the last one so far is found
abbrev pub invariant-loop-before : goal.invariant-loop-before
invariant-loop-before l = l.found ≡ dated l.revisions l.date l.before
