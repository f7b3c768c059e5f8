-- A node that is there is changed.
use Rattle.std.proofs.Common.{◌≡◌, Bool, true, Err, ap}
use Rattle.std.specs.Prelude.{not, is_some, cond}
use Rattle.svn_repo.specs.declared.change.CommitFault.TheVariants.{Missing}
use Rattle.svn_dump.specs.declared.record.NodeRecord.{NodeRecord}
use Rattle.svn_history.specs.declared.fault.LoadFault.TheVariants as faults
use Rattle.svn_history.specs.Steps.{Draft, Changes, IsMade, ◌>>◌}
use Rattle.svn_history.specs.Changes.{at, put_text, alter_props, alteration}
use Rattle.svn_history.proofs.Stepping.{made_then, made_along}

pub made_alteration : (node : NodeRecord) (d d1 d2 : Draft) → is_some (at d node.path) ≡ true → IsMade (put_text node.path node.text) d d1
    → IsMade (alter_props node.path node.props) d1 d2 → IsMade (alteration node) d d2
made_alteration node d d1 d2 there first next =
    let both = put_text node.path node.text >> alter_props node.path node.props in
    let F : Bool → Changes = λ b. cond (not b) (Err (faults.Commit Missing)) (both d) in
    made_along (alteration node) both d d2 (ap F there)
    (made_then (put_text node.path node.text) (alter_props node.path node.props) d d1 d2 first next)
