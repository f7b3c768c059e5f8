use Rattle.std.proofs.Common.{◌≡◌, ◌≤◌, take}
use Rattle.std.specs.Prelude.{IfSome}
use Rattle.std.specs.Option.{option_copied}
use Rattle.svn_history.specs.Changed.{latest_copy}
use Rattle.svn_history.proofs.changed.latest_copy.Given as goal

abbrev pub invariant-loop-copy : goal.invariant-loop-copy
invariant-loop-copy l = record {
  latest : option_copied l.latest ≡ latest_copy (take l.copy-index l.copies) l.rev l.path;
  within : IfSome l.latest (λ copy. copy.now.rev ≤ l.rev);
}
