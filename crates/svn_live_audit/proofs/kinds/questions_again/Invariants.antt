use Rattle.std.proofs.Common.{◌≡◌, map, take}
use Rattle.svn_live_audit.specs.Rounds.{question_value, questions_again}
use Rattle.svn_live_audit.proofs.kinds.questions_again.Given as goal

-- the questions about the places so far
abbrev pub invariant-loop-finding : goal.invariant-loop-finding
invariant-loop-finding l = map question_value l.questions.items ≡ questions_again (take l.finding-index l.findings)
