use Rattle.std.proofs.Common.{◌≡◌, map, take}
use Rattle.std.specs.Prelude.{filter_map}
use Rattle.svn_live_audit.specs.Rounds.{question_of, question_value}
use Rattle.svn_live_audit.proofs.places.questions_of.Given as goal

-- the questions about the nodes so far
abbrev pub invariant-loop-place : goal.invariant-loop-place
invariant-loop-place l =
    map question_value l.questions.items ≡ filter_map (λ p. question_of p.node.now) (take l.place-index l.places)
