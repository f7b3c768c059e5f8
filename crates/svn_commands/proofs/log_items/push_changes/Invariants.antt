use Rattle.std.proofs.Common.{◌≡◌, ◌++◌, drop}
use Rattle.std.specs.List.{flat_map}
use Rattle.svn_replies.specs.Changes.{changes_of}
use Rattle.svn_commands.specs.LogItems.{change_fields}
use Rattle.svn_replies.specs.Answers.{listed}
use Rattle.svn_commands.proofs.log_items.push_changes.Given as goal

-- what is written and the changes that are left make all
abbrev pub invariant-loop-change : goal.invariant-loop-change
invariant-loop-change l =
    l.out.items ++ flat_map (λ change. listed (change_fields l.view.served.now l.rev change)) (drop l.change-index l.change-items)
    ≡ l.initial.out.items ++ flat_map (λ change. listed (change_fields l.view.served.now l.rev change)) (changes_of l.view.served.now.changes l.rev)
