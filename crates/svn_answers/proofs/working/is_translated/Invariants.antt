use Rattle.std.proofs.Common.{◌≡◌}
use Rattle.svn_answers.specs.Working.{is_translated}
use Rattle.svn_answers.proofs.working.is_translated.Given as goal

-- the properties that are left decide it
abbrev pub invariant-loop-name : goal.invariant-loop-name
invariant-loop-name l = is_translated l.name-iterator ≡ is_translated l.props
