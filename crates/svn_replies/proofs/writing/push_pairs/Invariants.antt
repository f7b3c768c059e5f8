use Rattle.std.proofs.Common.{◌≡◌, ◌++◌}
use Rattle.std.specs.List.{flat_map}
use Rattle.svn_replies.specs.Answers.{pair_bytes}
use Rattle.svn_replies.proofs.writing.push_pairs.Given as goal

-- what is written and the pairs that are left make all
abbrev pub invariant-loop-name : goal.invariant-loop-name
invariant-loop-name l =
    l.out.items ++ flat_map (λ prop. pair_bytes prop.0 prop.1) l.name-iterator
    ≡ l.initial.out.items ++ flat_map (λ prop. pair_bytes prop.0 prop.1) l.props
