use Rattle.std.proofs.Common.{◌≡◌, ◌++◌}
use Rattle.std.specs.List.{flat_map}
use Rattle.svn_replies.specs.Answers.{pair_bytes}
use Rattle.svn_commands.specs.Asking.{names_as}
use Rattle.svn_commands.specs.LogItems.{others}
use Rattle.svn_commands.proofs.log_items.push_other_pairs.Given as goal

-- what is written and the properties that are left make all
abbrev pub invariant-loop-name : goal.invariant-loop-name
invariant-loop-name l =
    l.out.items ++ flat_map (λ prop. pair_bytes prop.0 prop.1) (others (names_as l.names) l.name-iterator)
    ≡ l.initial.out.items ++ flat_map (λ prop. pair_bytes prop.0 prop.1) (others (names_as l.names) l.props)
