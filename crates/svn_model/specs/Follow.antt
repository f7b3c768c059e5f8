-- Where a client's paths lead in the target: which are kept, and the path of each in the target revision.
--     follow d p      what becomes of the path p
--     source_node d p, target_node d p      the node that the client has there, and the one that it gets
use Rattle.std.specs.Prelude.{ℕ, Bool, true, ◌&&◌, List, [], ◌∷◌, Option, if◌then◌else◌}
use Rattle.svn_types.specs.Names.{Path}
use Rattle.svn_types.specs.Paths.{child}
use Rattle.svn_repo.specs.History.{History, look}
use Rattle.svn_repo.specs.Readings.{are_related}
use Rattle.svn_report.specs.Reports.{ReportView}
use Rattle.svn_editor.specs.declared.mode.Mode.{Mode}
use Rattle.svn_editor.specs.declared.mode.Mode.TheVariants.{Update, SwitchTo}
use Rattle.svn_model.specs.Sources.{Reported, reported_root, reported_child, source}

-- what a drive is asked for, and how texts are summed
pub record DriveInput : Type 0 where
  pub history : History
  pub report : ReportView
  pub target : ℕ
  pub mode : Mode
  pub checksum : List ℕ → List ℕ

-- what becomes of a path
pub record Followed : Type 0 where
  pub here : Reported
  pub is_kept : Bool
  pub parent_is_kept : Bool
  pub target_path : Path

-- the path in the target at which a child would be kept, by its repository path and the one below its parent's
abbrev pub candidate : Mode → Path → Path → Path
candidate Update repos_path beneath = repos_path
candidate (SwitchTo root) repos_path beneath = beneath

-- the path of the root in the target
abbrev pub root_path : Mode → Path → Path
root_path Update reported = reported
root_path (SwitchTo root) reported = root

abbrev pub follow_root : DriveInput → Followed
follow_root d = record {
  here = reported_root d.report;
  is_kept = true;
  parent_is_kept = true;
  target_path = root_path d.mode d.report.root;
}

-- a child with that report and that candidate, which is kept or not
abbrev pub follow_to : Followed → Reported → List ℕ → Path → Bool → Followed
follow_to above here name path kept = record {
  here = here;
  is_kept = kept;
  parent_is_kept = above.is_kept;
  target_path = if kept then path else child above.target_path name;
}

abbrev pub follow_child : DriveInput → Followed → List ℕ → Followed
follow_child d above name =
    let here = reported_child d.report above.here name in
    let path = candidate d.mode here.repos_path (child above.target_path name) in
    follow_to above here name path (above.is_kept && are_related d.history (source d.history here) (look d.history d.target path))

abbrev pub follow_from : DriveInput → Followed → Path → Followed
follow_from d f [] = f
follow_from d f (name ∷ p) = follow_from d (follow_child d f name) p

abbrev pub follow : DriveInput → Path → Followed
follow d p = follow_from d (follow_root d) p

abbrev pub target_path : DriveInput → Path → Path
target_path d p = (follow d p).target_path

abbrev pub is_kept : DriveInput → Path → Bool
is_kept d p = (follow d p).is_kept

abbrev pub source_node : DriveInput → Path → Option ℕ
source_node d p = source d.history (follow d p).here

abbrev pub target_node : DriveInput → Path → Option ℕ
target_node d p = look d.history d.target (target_path d p)
