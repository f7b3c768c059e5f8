-- What a drive does at each path, and in which order.
--     path_steps d p      the steps at a path, in order
--     is_touched, is_new, is_gone      the three classes of paths
--     IsDriveOf d late steps      the steps of a drive: those of every path, in order of their keys
use Rattle.std.specs.Prelude.{◌≡◌, ℕ, Bool, true, false, ◌&&◌, ◌||◌, not, List, [], ◌∷◌, ◌++◌, map, filter, bytes_eq, Option, Some, None}
use Rattle.std.specs.Prelude.{is_some, if◌then◌else◌}
use Rattle.std.specs.List.{list_any}
use Rattle.std.specs.declared.cmp.Ordering.{Ordering}
use Rattle.std.specs.declared.cmp.Ordering.TheVariants.{Less, Equal, Greater}
use Rattle.std.specs.Ordering.{is_gt}
use Rattle.std.specs.Cmp.Lexicographic.{slice_cmp}
use Rattle.svn_types.specs.declared.kind.Kind.{Kind}
use Rattle.svn_types.specs.declared.kind.Kind.TheVariants.{File, Directory}
use Rattle.svn_types.specs.Names.{Path, name_cmp}
use Rattle.svn_types.specs.Paths.{path_eq, is_root}
use Rattle.svn_types.specs.Props.{changes_between}
use Rattle.svn_repo.specs.Readings.{kind_of, text_of, props_of, is_directory_at}
use Rattle.svn_editor.specs.Calls.{number_eq}
use Rattle.svn_report.specs.Reports.{has_entry_below}
use Rattle.svn_editor.specs.Steps.{Action, Delete, Open, Add, Change, Text, Close, Step, steps_at}
use Rattle.svn_model.specs.Sources.{governing_revision, starts_empty}
use Rattle.svn_model.specs.Follow.{DriveInput, follow, source_node, target_node}

-- ---- classes of paths

abbrev pub starts_empty_at : DriveInput → Path → Bool
starts_empty_at d p = starts_empty (follow d p).here.own && is_directory_at d.history (source_node d p)

abbrev pub is_touched : DriveInput → Path → Bool
is_touched d p =
    (follow d p).is_kept
    && (is_root p || not (number_eq (source_node d p) (target_node d p)) || starts_empty_at d p || has_entry_below d.report.entries p)

-- not kept, and in the result; the parent is then touched or new
abbrev pub is_new : DriveInput → Path → Bool
is_new d p = not (follow d p).is_kept && is_some (target_node d p)

abbrev pub is_gone : DriveInput → Path → Bool
is_gone d p = is_some (source_node d p) && not (follow d p).is_kept && (follow d p).parent_is_kept

-- ---- the steps of a path

abbrev pub source_props : DriveInput → Path → Option ℕ → List (List ℕ × List ℕ)
source_props d p None = []
source_props d p (Some n) = if starts_empty_at d p then [] else props_of d.history n

abbrev pub source_text : DriveInput → Option ℕ → List ℕ
source_text d None = []
source_text d (Some n) = text_of d.history n

abbrev pub gone_actions : DriveInput → Path → List Action
gone_actions d p = if is_gone d p then Delete (governing_revision (follow d p).here) ∷ [] else []

abbrev pub text_actions : DriveInput → List ℕ → List ℕ → List Action
text_actions d old new = if bytes_eq old new then [] else Text (Some (d.checksum old)) new ∷ []

abbrev pub touched_actions : DriveInput → Path → ℕ → Kind → List Action
touched_actions d p n Directory =
    Open Directory (governing_revision (follow d p).here)
    ∷ map (Change Directory) (changes_between (source_props d p (source_node d p)) (props_of d.history n))
    ++ (Close Directory None ∷ [])
touched_actions d p n File =
    Open File (governing_revision (follow d p).here)
    ∷ map (Change File) (changes_between (source_props d p (source_node d p)) (props_of d.history n))
    ++ text_actions d (source_text d (source_node d p)) (text_of d.history n)
    ++ (Close File (Some (d.checksum (text_of d.history n))) ∷ [])

abbrev pub new_actions : DriveInput → ℕ → Kind → List Action
new_actions d n Directory =
    Add Directory ∷ map (Change Directory) (changes_between [] (props_of d.history n)) ++ (Close Directory None ∷ [])
new_actions d n File =
    Add File
    ∷ map (Change File) (changes_between [] (props_of d.history n))
    ++ (Text None (text_of d.history n) ∷ Close File (Some (d.checksum (text_of d.history n))) ∷ [])

abbrev pub entered_actions : DriveInput → Path → Option ℕ → List Action
entered_actions d p None = []
entered_actions d p (Some n) =
    if is_touched d p then touched_actions d p n (kind_of d.history n)
    else if is_new d p then new_actions d n (kind_of d.history n)
    else []

abbrev pub path_actions : DriveInput → Path → List Action
path_actions d p = gone_actions d p ++ entered_actions d p (target_node d p)

abbrev pub path_steps : DriveInput → Path → List Step
path_steps d p = steps_at p (path_actions d p)

-- ---- the order of the steps

abbrev pub is_text : Action → Bool
is_text (Text base text) = true
is_text _ = false

-- the path is a file that gets a text
abbrev pub has_text : DriveInput → Path → Bool
has_text d p = list_any is_text (path_actions d p)

-- a name, or the end of a directory, which comes after every name
pub data Mark : Type 0 where
  Named : List ℕ → Mark
  End : Mark

abbrev pub mark_cmp : Mark → Mark → Ordering
mark_cmp (Named m) (Named n) = name_cmp m n
mark_cmp (Named m) End = Less
mark_cmp End (Named n) = Greater
mark_cmp End End = Equal

-- A step's key is its path. A directory's close comes at the end of its path. A late text comes after the end of the root.
abbrev pub key : DriveInput → Bool → Path → Action → List Mark
key d late p (Close Directory c) = map Named p ++ (End ∷ [])
key d late p (Close File c) = if late && has_text d p then End ∷ map Named p else map Named p
key d late p (Text base text) = if late then End ∷ map Named p else map Named p
key d late p _ = map Named p

abbrev pub key_of : DriveInput → Bool → Step → List Mark
key_of d late s = key d late s.path s.action

-- no step has a smaller key than one before it
abbrev pub comes_after : DriveInput → Bool → Step → Step → Bool
comes_after d late s t = is_gt (slice_cmp mark_cmp (key_of d late s) (key_of d late t))

abbrev pub InKeyOrder : DriveInput → Bool → List Step → Type 0
InKeyOrder d late [] = Unit {0}
InKeyOrder d late (s ∷ steps) = (list_any (comes_after d late s) steps ≡ false) × InKeyOrder d late steps

pub record IsDriveOf (d : DriveInput) (late : Bool) (steps : List Step) : Type 0 where
  pub at_each_path : (p : Path) → filter (λ s. path_eq s.path p) steps ≡ path_steps d p
  pub in_order : InKeyOrder d late steps
