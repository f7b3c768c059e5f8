use Rattle.std.proofs.Common.{◌≡◌, length}
use Rattle.std.specs.Map.{keys_of}
use Rattle.svn_model.specs.Nodes.{get_in}
use Rattle.svn_audit.specs.Untrue.{first_lacking}
use Rattle.svn_audit.proofs.untrue.first_lacking.Given as goal

abbrev pub invariant-entries : goal.invariant-entries
invariant-entries l = first_lacking (get_in l.copy) l.path (keys_of l.entries) ≡ first_lacking (get_in l.copy) l.path (keys_of l.left)

abbrev pub decreases-entries : goal.decreases-entries
decreases-entries l = length l.left
