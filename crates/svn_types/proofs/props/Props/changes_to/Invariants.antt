use Rattle.std.proofs.Common.{◌≡◌, ◌+◌, ◌++◌, length}
use Rattle.svn_types.specs.Pairs.{InNameOrder}
use Rattle.svn_types.specs.Props.{changes_between}
use Rattle.svn_types.proofs.props.Props.changes_to.Given as goal

abbrev pub decreases-names : goal.decreases-names
decreases-names l = length l.left.before + length l.left.after

-- the changes that were made and those between what is left are all
abbrev pub invariant-names : goal.invariant-names
invariant-names l =
    record {
      before : InNameOrder l.left.before;
      after : InNameOrder l.left.after;
      all : l.changes.items ++ changes_between l.left.before l.left.after ≡ changes_between l.self l.new;
    }
