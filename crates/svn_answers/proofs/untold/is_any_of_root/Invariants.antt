use Rattle.std.proofs.Common.{◌≡◌, take, false}
use Rattle.std.specs.List.{list_any}
use Rattle.svn_answers.specs.Untold.{is_of_root}
use Rattle.svn_answers.proofs.untold.is_any_of_root.Given as goal

-- none so far is
abbrev pub invariant-loop-untrue : goal.invariant-loop-untrue
invariant-loop-untrue l = list_any is_of_root (take l.untrue-index l.all) ≡ false
