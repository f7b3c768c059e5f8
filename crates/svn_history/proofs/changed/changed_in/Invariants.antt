use Rattle.std.proofs.Common.{ℕ}
use Rattle.svn_history.specs.Changed.{IsChangedIn}
use Rattle.svn_history.proofs.changed.changed_in.Given as goal

abbrev pub decreases-copies : goal.decreases-copies
decreases-copies l = l.rev

-- what the change here is, it is from the start
abbrev pub invariant-copies : goal.invariant-copies
invariant-copies l = (c : ℕ) → IsChangedIn l.copies l.made l.rev l.path c → IsChangedIn l.copies l.made l.fn.rev l.fn.path c
