use Rattle.std.proofs.Common.{◌≡◌, ◌++◌, drop}
use Rattle.std.specs.List.{flat_map}
use Rattle.svn_commands.specs.Asking.{wanted_as}
use Rattle.svn_commands.specs.LogItems.{item_bytes}
use Rattle.svn_commands.proofs.log.push_items.Given as goal

-- what is written and the revisions that are left make all
abbrev pub invariant-loop-rev : goal.invariant-loop-rev
invariant-loop-rev l =
    l.out.items ++ flat_map (item_bytes l.view.served.now (wanted_as l.wanted)) (drop l.rev-index l.revs)
    ≡ l.initial.out.items ++ flat_map (item_bytes l.view.served.now (wanted_as l.wanted)) l.revs
