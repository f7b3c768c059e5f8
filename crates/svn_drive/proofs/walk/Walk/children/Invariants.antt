use Rattle.std.proofs.Common.{◌++◌, length}
use Rattle.std.specs.List.{AllByRecursion}
use Rattle.svn_model.specs.Tree.{names_below}
use Rattle.svn_drive.specs.NamesLeft.{AreLeft, names_left}
use Rattle.svn_drive.specs.Children.{IsChild, SameWalk, names_of}
use Rattle.svn_drive.specs.Walking.{request_of}
use Rattle.svn_drive.proofs.walk.Walk.children.Given as goal

abbrev pub decreases-names : goal.decreases-names
decreases-names l = length (names_left l.left)

-- the names that were kept and those that are left are walked over as all names are
abbrev pub invariant-names : goal.invariant-names
invariant-names l =
    let d = request_of l.self in
    record {
      left : AreLeft d l.place l.left;
      same : SameWalk d l.place.here.path (names_below d l.place.here.path) (names_of l.children.items ++ names_left l.left);
      under : AllByRecursion (IsChild d l.place) l.children.items;
    }
