use Rattle.std.proofs.Common.{◌≡◌}
use Rattle.svn_replies.specs.Values.{value_in}
use Rattle.svn_replies.proofs.served.value_in.Given as goal

-- the value is among the properties that are left, if it is among all
abbrev pub invariant-loop-found : goal.invariant-loop-found
invariant-loop-found l = value_in l.name l.found-iterator ≡ value_in l.name l.props
