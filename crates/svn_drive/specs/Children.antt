-- The children of a place at which something is done.
--     IsChild d place below      what is under the name is known, and the path has room for a name
--     SameWalk d p ns ms      a walk over the one list of names below the path does what one over the other does
use Rattle.std.specs.Prelude.{◌≡◌, ℕ, ◌<◌, Bool, List, length, map}
use Rattle.svn_types.specs.Names.{Path, depth_limit}
use Rattle.svn_model.specs.Follow.{DriveInput}
use Rattle.svn_model.specs.TreeCalls.{in_turn, sizes, visit_calls, visit_size}
use Rattle.svn_drive.specs.declared.child_names.Below.{Below}
use Rattle.svn_drive.specs.declared.place.Place.{Place}
use Rattle.svn_drive.specs.NamesLeft.{IsBelow}
use Rattle.svn_drive.specs.Waiting.{visit_late}

abbrev pub names_of : List Below → List (List ℕ)
names_of = map (λ (b : Below). b.name.now)

pub record IsChild (d : DriveInput) (place : Place) (below : Below) : Type 0 where
  pub under : IsBelow d place below
  pub room : length place.here.path < depth_limit

pub record SameWalk (d : DriveInput) (p : Path) (ns ms : List (List ℕ)) : Type 0 where
  pub calls : (late : Bool) (own next : ℕ)
      → in_turn (λ q n. visit_calls d late q own n) (visit_size d) p next ns
      ≡ in_turn (λ q n. visit_calls d late q own n) (visit_size d) p next ms
  pub tokens : sizes (visit_size d) p ns ≡ sizes (visit_size d) p ms
  pub waits : (late : Bool) (own next : ℕ)
      → in_turn (λ q n. visit_late d late q own n) (visit_size d) p next ns
      ≡ in_turn (λ q n. visit_late d late q own n) (visit_size d) p next ms
