-- What a report says of each path, and the node that a client has there.
--     reported r p      the nearest entry at or above a path, and its repository path
--     source h s, source_at h r p      the node that the client has there
use Rattle.std.specs.Prelude.{ℕ, Bool, true, false, ◌&&◌, ◌||◌, not, List, [], ◌∷◌, Option, Some, None, is_some, if◌then◌else◌}
use Rattle.std.specs.Option.{option_or}
use Rattle.svn_types.specs.Names.{Path}
use Rattle.svn_types.specs.Paths.{child}
use Rattle.svn_repo.specs.History.{History, look}
use Rattle.svn_report.specs.declared.entry.ReportEntry.{ReportEntry}
use Rattle.svn_report.specs.declared.entry.ReportEntry.TheVariants.{SetPath, LinkPath}
use Rattle.svn_report.specs.Reports.{ReportView, entry_at}

-- ---- entries

abbrev pub revision_of : Option ReportEntry → ℕ
revision_of (Some (SetPath r e)) = r
revision_of (Some (LinkPath q r e)) = r
revision_of _ = 0

abbrev pub starts_empty : Option ReportEntry → Bool
starts_empty (Some (SetPath r e)) = e
starts_empty (Some (LinkPath q r e)) = e
starts_empty _ = false

abbrev pub is_set_or_link : Option ReportEntry → Bool
is_set_or_link (Some (SetPath r e)) = true
is_set_or_link (Some (LinkPath q r e)) = true
is_set_or_link _ = false

-- a link's own repository path, else the one that the parent's gives
abbrev pub linked_or : Option ReportEntry → Path → Path
linked_or (Some (LinkPath q r e)) path = q
linked_or _ path = path

-- ---- paths

-- what a report says of a path: its own entry, the nearest at or above it, and its repository path
pub record Reported : Type 0 where
  pub path : Path
  pub own : Option ReportEntry
  pub governing : Option ReportEntry
  pub repos_path : Path

abbrev pub reported_root : ReportView → Reported
reported_root r = record {
  path = [];
  own = entry_at r.entries [];
  governing = entry_at r.entries [];
  repos_path = r.root;
}

abbrev pub reported_child : ReportView → Reported → List ℕ → Reported
reported_child r above name = record {
  path = child above.path name;
  own = entry_at r.entries (child above.path name);
  governing = option_or (entry_at r.entries (child above.path name)) above.governing;
  repos_path = linked_or (entry_at r.entries (child above.path name)) (child above.repos_path name);
}

abbrev pub reported_from : ReportView → Reported → Path → Reported
reported_from r s [] = s
reported_from r s (name ∷ p) = reported_from r (reported_child r s name) p

abbrev pub reported : ReportView → Path → Reported
reported r p = reported_from r (reported_root r) p

abbrev pub governing_revision : Reported → ℕ
governing_revision s = revision_of s.governing

-- ---- nodes

-- no set or link governs the path, or one above it that starts empty
abbrev pub is_hidden : Reported → Bool
is_hidden s = not (is_set_or_link s.governing && (is_some s.own || not (starts_empty s.governing)))

abbrev pub source : History → Reported → Option ℕ
source h s = if is_hidden s then None else look h (governing_revision s) s.repos_path

abbrev pub source_at : History → ReportView → Path → Option ℕ
source_at h r p = source h (reported r p)
