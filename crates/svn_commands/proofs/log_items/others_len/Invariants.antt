use Rattle.std.proofs.Common.{◌≡◌, ◌≤◌, ◌+◌, length}
use Rattle.svn_commands.specs.Asking.{names_as}
use Rattle.svn_commands.specs.LogItems.{others}
use Rattle.svn_commands.proofs.log_items.others_len.Given as goal

-- those so far and those of the properties that are left are all
abbrev pub invariant-loop-name : goal.invariant-loop-name
invariant-loop-name l = record {
  same : l.count + length (others (names_as l.names) l.name-iterator) ≡ length (others (names_as l.names) l.props);
  room : l.count + length l.name-iterator ≤ l.most;
}
