-- The names that are left below a path, of two directories and a report, and how the first of them is taken.
--     names_left l      the names, in order and each once
--     source_of below, target_of below, reported_of below      the nodes under a name, as numbers, and the entries
--     TakesChild l name below l'      the first name was taken, with what is under it
--     IsBelow d place below      what is under a name below a place
--     AreLeft d place l      the lists are in order, and have what is under each name that is left
use Rattle.std.specs.Prelude.{◌≡◌, ℕ, Bool, true, List, [], ◌++◌, fold, bytes_eq, Option, Some}
use Rattle.std.specs.Option.{option_copied}
use Rattle.std.specs.List.{list_any}
use Rattle.std.specs.Map.{keys_of}
use Rattle.std.specs.BTreeSet.{insert_key}
use Rattle.svn_types.specs.Names.{name_cmp}
use Rattle.svn_types.specs.Paths.{child, is_within}
use Rattle.svn_types.specs.Pairs.{value_of}
use Rattle.svn_report.specs.Reports.{Entries}
use Rattle.svn_model.specs.Follow.{DriveInput}
use Rattle.svn_drive.specs.declared.child_names.Below.{Below}
use Rattle.svn_drive.specs.declared.child_names.NamesLeft.{NamesLeft}
use Rattle.svn_drive.specs.declared.place.Place.{Place}
use Rattle.svn_drive.specs.Firsts.{first_key, earlier, InOrder, TakesValue}
use Rattle.svn_drive.specs.Parts.{IsPart, entries_in, entries_under, none_or}
use Rattle.svn_drive.specs.Walking.{entry_of}

-- ---- one name is taken

abbrev pub source_of : Below → Option ℕ
source_of below = option_copied below.source

abbrev pub target_of : Below → Option ℕ
target_of below = option_copied below.target

abbrev pub reported_of : Below → Entries
reported_of below = entries_in below.reported

abbrev pub first_name : NamesLeft → Option (List ℕ)
first_name l = earlier (earlier (first_key l.source) (first_key l.target)) (first_key l.reported)

pub record TakesChild (l : NamesLeft) (name : List ℕ) (below : Below) (l' : NamesLeft) : Type 0 where
  pub first : first_name l ≡ Some name
  pub named : below.name.now ≡ name
  pub source : TakesValue name l.source (source_of below) l'.source
  pub target : TakesValue name l.target (target_of below) l'.target
  pub reported : TakesValue name l.reported (none_or (reported_of below)) l'.reported

abbrev pub names_left : NamesLeft → List (List ℕ)
names_left l = fold (insert_key name_cmp) [] (keys_of l.source ++ keys_of l.target ++ keys_of l.reported)

-- ---- what is under a name

pub record IsBelow (d : DriveInput) (place : Place) (below : Below) : Type 0 where
  pub source : source_of below ≡ entry_of d.history place.source below.name.now
  pub target : target_of below ≡ entry_of d.history place.target below.name.now
  pub reported : IsPart d.report.entries (is_within (child place.here.path below.name.now)) (reported_of below)

-- ---- what is left

abbrev pub has_name : List (List ℕ) → List ℕ → Bool
has_name ns name = list_any (λ n. bytes_eq n name) ns

-- what is left under the name is what is there
pub record HasAll (d : DriveInput) (place : Place) (l : NamesLeft) (name : List ℕ) : Type 0 where
  pub source : entry_of d.history place.source name ≡ value_of l.source name
  pub target : entry_of d.history place.target name ≡ value_of l.target name
  pub reported : IsPart d.report.entries (is_within (child place.here.path name)) (entries_under l.reported name)

pub record AreLeft (d : DriveInput) (place : Place) (l : NamesLeft) : Type 0 where
  pub source : InOrder (keys_of l.source)
  pub target : InOrder (keys_of l.target)
  pub reported : InOrder (keys_of l.reported)
  pub under : (name : List ℕ) → has_name (names_left l) name ≡ true → HasAll d place l name
