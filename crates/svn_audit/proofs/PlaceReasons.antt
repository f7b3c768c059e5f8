-- The reason of a node of a copy is that by what the history has in its place.
use Rattle.std.proofs.Common.{◌≡◌, ℕ, Bool, true, false, not, cond, List, refl, Option, Some, None}
use Rattle.std.specs.Option.{option_map}
use Rattle.svn_types.specs.declared.kind.Kind.TheVariants.{File, Directory}
use Rattle.svn_types.specs.Names.{Path}
use Rattle.svn_repo.specs.History.{History, look}
use Rattle.svn_repo.specs.Readings.{kind_of, is_directory}
use Rattle.svn_model.specs.declared.base_node.BaseNode.{BaseNode}
use Rattle.svn_model.specs.declared.base_node.BaseNode.TheVariants.{File as FileNode, Dir as DirNode, NotPresent}
use Rattle.svn_model.specs.Nodes.{WorkingCopy}
use Rattle.svn_model.specs.Truth.{Properties}
use Rattle.svn_audit.specs.declared.reason.Reason.{Reason}
use Rattle.svn_audit.specs.Untrue.{file_reason, dir_reason, found_reason, missing_reason, node_reason}
use Rattle.svn_audit.specs.Places.{place_at, file_by, dir_by, by_place, place_reason, place_of, ReasonsAreOfPlaces}

pub reasons_are_of_places : ReasonsAreOfPlaces
reasons_are_of_places h w p NotPresent = refl
reasons_are_of_places h w p (FileNode r q text props) = by (look h r q)
  where
    here : (n : ℕ) (b : Bool) → is_directory (kind_of h n) ≡ b → file_reason h text props n ≡ file_by text props (place_at h n)
    here n true e = rw (e) refl
    here n false e = rw (e) refl

    by : (o : Option ℕ) → found_reason (missing_reason h r) (file_reason h text props) o
        ≡ by_place (missing_reason h r) (file_by text props) (option_map (place_at h) o)
    by None = refl
    by (Some n) = here n (is_directory (kind_of h n)) refl
reasons_are_of_places h w p (DirNode r q complete props) = by (look h r q)
  where
    here : (n : ℕ) (b : Bool) → is_directory (kind_of h n) ≡ b → dir_reason h w p complete props n ≡ dir_by w p complete props (place_at h n)
    here n true e = rw (e) refl
    here n false e = rw (e) refl

    by : (o : Option ℕ) → found_reason (missing_reason h r) (dir_reason h w p complete props) o
        ≡ by_place (missing_reason h r) (dir_by w p complete props) (option_map (place_at h) o)
    by None = refl
    by (Some n) = here n (is_directory (kind_of h n)) refl
