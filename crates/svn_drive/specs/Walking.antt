-- What a walk knows at a path.
--     request_of w, late_texts_of w, limit_of w      what the walk was asked for
--     WalkRuns answers w calls result e f before after      the calls lead from e to f, or up to a stop, and are counted
--     IsAt d place      the place has what there is to know of its path
--     IsKnown d place known      a node was looked up for a revision at the client's path of the place, or none was
--     IsQuiet d p name      what is at the name below the path is what the path's nodes have, and nothing is reported there
--     IsIdle d p      nothing is done at the path, nor below it
use Rattle.std.specs.Prelude.{◌≡◌, ◌≤◌, ◌<◌, ◌⊎◌, length, ℕ, Bool, ◌&&◌, ◌||◌, not, is_some, true, ◌+◌, bytes_eq, if◌then◌else◌, List, []}
use Rattle.std.specs.Prelude.{◌∷◌, ◌++◌, Option, Some, None, IfSome, option_and_then, false, Result}
use Rattle.std.specs.Option.{option_copied}
use Rattle.md5.specs.Md5.{md5}
use Rattle.svn_types.specs.Names.{Path, depth_limit}
use Rattle.svn_editor.specs.declared.mode.Mode.{Mode}
use Rattle.svn_editor.specs.declared.mode.Mode.TheVariants.{Update, SwitchTo}
use Rattle.svn_repo.specs.History.{History, node_at, child_in, look}
use Rattle.svn_repo.specs.Readings.{is_directory_at}
use Rattle.svn_types.specs.Paths.{child, is_below, is_root}
use Rattle.svn_report.specs.declared.entry.ReportEntry.{ReportEntry}
use Rattle.svn_report.specs.declared.entry.ReportEntry.TheVariants.{LinkPath}
use Rattle.svn_editor.specs.Calls.{number_eq}
use Rattle.svn_report.specs.ReportNames.{has_entry_within}
use Rattle.svn_report.specs.Reports.{ReportView, has_entry_below}
use Rattle.svn_drive.specs.Checking.{seen_as}
use Rattle.svn_drive.specs.Counts.{Counts}
use Rattle.svn_drive.specs.Parts.{IsPart, entries_in}
use Rattle.svn_drive.specs.Requests.{input_of}
use Rattle.svn_drive.specs.declared.place.Known.{Known}
use Rattle.svn_drive.specs.declared.place.Place.{Place}
use Rattle.svn_drive.specs.declared.walk.Walk.{Walk}
use Rattle.svn_drive.specs.declared.visit.Texted.{Texted}
use Rattle.svn_types.specs.declared.kind.Kind.{Kind}
use Rattle.svn_types.specs.declared.kind.Kind.TheVariants.{File, Directory}
use Rattle.svn_repo.specs.Readings.{kind_of, text_of}
use Rattle.svn_editor.specs.declared.call.Call.{Call}
use Rattle.svn_editor.specs.declared.fault.EditFault.{EditFault}
use Rattle.svn_editor.specs.Steps.{Action, Text, Close}
use Rattle.svn_model.specs.declared.stop.Stop.{Stop}
use Rattle.svn_model.specs.Ends.{Runs}
use Rattle.svn_model.specs.Tree.{names_below, is_entered, is_late, entry_actions, file_end, last_of}
use Rattle.svn_model.specs.TreeCalls.{calls_at, in_turn, sizes, visit_calls, visit_size}
use Rattle.svn_model.specs.Sources.{starts_empty}
use Rattle.svn_model.specs.Follow.{DriveInput, Followed, follow, target_path, source_node, target_node}
use Rattle.svn_model.specs.Steps.{is_touched, is_gone, source_text}

abbrev pub request_of : Walk → DriveInput
request_of w = input_of w.repo.now w.report.now w.request.now

-- whether its texts wait for the directories, and how many calls it may make
abbrev pub late_texts_of : Walk → Bool
late_texts_of w = w.request.now.options.late_texts

abbrev pub limit_of : Walk → Option ℕ
limit_of w = w.request.now.options.cancel_after

-- the calls lead from e to f, or up to a stop, within the limit of the walk, and the count goes from before to after
abbrev pub WalkRuns : {E : Type 0} → (E → Call → Result (Unit {0}) EditFault → E → Type 0) → Walk → List Call → Result (Unit {0}) Stop → E → E
    → Counts → Counts → Type 0
WalkRuns answers w calls r e f before after = Runs answers (limit_of w) calls r e f before.made after.made

abbrev pub followed_of : DriveInput → Place → Followed
followed_of d place = record {
  here = seen_as place.here;
  is_kept = place.is_kept;
  parent_is_kept = place.parent_is_kept;
  target_path = target_path d place.here.path;
}

-- the node in the target where a link leads; without one the node that is given
abbrev pub linked_node : DriveInput → Option ReportEntry → Option ℕ → Option ℕ
linked_node d (Some (LinkPath q rev start_empty)) beneath = look d.history d.target q
linked_node d _ beneath = beneath

-- the node in the target that would keep a child of a kept path, by the one below its parent's
abbrev pub candidate_node : DriveInput → Mode → Option ReportEntry → Option ℕ → Option ℕ
candidate_node d Update own beneath = linked_node d own beneath
candidate_node d (SwitchTo root) own beneath = beneath

-- what is reported of the path, but for the test whether something must be done there
pub record IsNearlyAt (d : DriveInput) (place : Place) : Type 0 where
  pub followed : followed_of d place ≡ follow d place.here.path
  pub start : place.here.start ≤ length place.here.path
  pub source : place.source ≡ source_node d place.here.path
  pub target : place.target ≡ target_node d place.here.path
  pub below : IsPart d.report.entries (is_below place.here.path) (entries_in place.below)

abbrev pub is_changed_at : DriveInput → Place → Bool
is_changed_at d place =
    is_root place.here.path || not (number_eq place.source place.target)
    || (starts_empty (option_copied place.here.own) && is_directory_at d.history place.source)
    || has_entry_below d.report.entries place.here.path

pub record IsAt (d : DriveInput) (place : Place) : Type 0 where
  pub followed : followed_of d place ≡ follow d place.here.path
  pub start : place.here.start ≤ length place.here.path
  pub source : place.source ≡ source_node d place.here.path
  pub target : place.target ≡ target_node d place.here.path
  pub below : IsPart d.report.entries (is_below place.here.path) (entries_in place.below)
  pub touched : place.is_touched ≡ is_touched d place.here.path

-- the node is what the history has in that revision, at the path that the client has at the place
abbrev pub IsKnown : DriveInput → Place → Option Known → Type 0
IsKnown d place known = IfSome known (λ k. k.node ≡ look d.history k.rev (seen_as place.here).repos_path)

-- ---- what is passed over

-- the entry of a node under a name
abbrev pub entry_of : History → Option ℕ → List ℕ → Option ℕ
entry_of h node name = option_and_then (λ n. child_in (node_at h n) name) node

-- both nodes have one entry under the name
abbrev pub has_same_entry : History → Option ℕ → Option ℕ → List ℕ → Bool
has_same_entry h old new name = is_some (entry_of h old name) && number_eq (entry_of h old name) (entry_of h new name)

pub record IsQuiet (d : DriveInput) (p : Path) (name : List ℕ) : Type 0 where
  pub kept : (follow d p).is_kept ≡ true
  pub shown : starts_empty (follow d p).here.governing ≡ false
  pub unreported : has_entry_within d.report.entries (child p name) ≡ false

pub record IsLeft (d : DriveInput) (p : Path) : Type 0 where
  pub entered : is_entered d p ≡ false
  pub gone : is_gone d p ≡ false

-- or the path has more names than paths have
abbrev pub IsIdle : DriveInput → Path → Type 0
IsIdle d p = IsLeft d p ⊎ (depth_limit < length p)

-- ---- what is entered

-- the path is opened or added, as a node of that kind
pub record IsEntered (d : DriveInput) (p : Path) (n : ℕ) (k : Kind) : Type 0 where
  pub entered : is_entered d p ≡ true
  pub target : target_node d p ≡ Some n
  pub kind : kind_of d.history n ≡ k

-- the text that is replaced
abbrev pub old_text : History → Texted → List ℕ
old_text h file = if file.has_old then text_of h file.old else []

-- what is reported of a file is what its path says
pub record IsTold (w : Walk) (p : Path) (n : ℕ) (file : Texted) : Type 0 where
  pub node : file.node ≡ n
  pub opened : file.is_opened ≡ is_touched (request_of w) p
  pub old : old_text w.repo.now file ≡ source_text (request_of w) (source_node (request_of w) p)

abbrev pub text_action : History → Texted → Action
text_action h file = Text (if file.is_opened then Some (md5 (old_text h file)) else None) (text_of h file.node)

abbrev pub close_action : History → Texted → Action
close_action h file = Close File (Some (md5 (text_of h file.node)))

abbrev pub has_text_of : History → Texted → Bool
has_text_of h file = not file.is_opened || not (bytes_eq (old_text h file) (text_of h file.node))

abbrev pub text_end : History → Texted → List Action
text_end h file = if has_text_of h file then text_action h file ∷ close_action h file ∷ [] else close_action h file ∷ []

-- the calls of a path that is entered, and of what is below it; and their tokens
abbrev pub entered_calls : DriveInput → Bool → Path → ℕ → ℕ → ℕ → Kind → List Call
entered_calls d late p parent own n Directory =
    calls_at p parent own (entry_actions d p n Directory)
    ++ (in_turn (λ q next. visit_calls d late q own next) (visit_size d) p (own + 1) (names_below d p)
    ++ calls_at p parent own (last_of Directory))
entered_calls d late p parent own n File =
    calls_at p parent own (entry_actions d p n File) ++ calls_at p parent own (if is_late d late p then [] else file_end d p n)

abbrev pub entered_size : DriveInput → Path → Kind → ℕ
entered_size d p Directory = 1 + sizes (visit_size d) p (names_below d p)
entered_size d p File = 1
