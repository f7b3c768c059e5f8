use Rattle.std.proofs.Common.{◌≡◌, length}
use Rattle.svn_model.specs.Nodes.{get_in}
use Rattle.svn_audit.specs.Untrue.{first_lacking}
use Rattle.svn_audit.proofs.found.Below.first_lacking.Given as goal

abbrev pub invariant-names : goal.invariant-names
invariant-names l = first_lacking (get_in l.self.copy.now) l.self.path.now l.names ≡ first_lacking (get_in l.self.copy.now) l.self.path.now l.left

abbrev pub decreases-names : goal.decreases-names
decreases-names l = length l.left
