-- What a working copy reports.
--     crawl nodes      the report of what the copy has
use Rattle.std.specs.Prelude.{Bool, ◌||◌, not, List, [], ◌++◌, nat_eq, Option, Some, None, option_map, if◌then◌else◌, filter_map}
use Rattle.svn_types.specs.Names.{Path}
use Rattle.svn_types.specs.Paths.{path_eq, parent, is_root, last_name}
use Rattle.svn_report.specs.declared.entry.ReportEntry.{ReportEntry}
use Rattle.svn_report.specs.declared.entry.ReportEntry.TheVariants.{SetPath, LinkPath, DeletePath}
use Rattle.svn_report.specs.Reports.{ReportView}
use Rattle.svn_model.specs.declared.base_node.BaseNode.{BaseNode}
use Rattle.svn_model.specs.Nodes.{get_in, is_incomplete, is_not_present, node_revision, node_path}

-- the repository path isn't the parent's joined with the name
abbrev pub is_switched : Path → Option BaseNode → Option BaseNode → Bool
is_switched p above found = not (path_eq (node_path found) (node_path above ++ last_name p))

abbrev pub entry_for : Path → Option BaseNode → Option BaseNode → Option ReportEntry
entry_for p above node =
    if is_root p then set_path
    else if is_not_present node then (if is_incomplete above then None else Some DeletePath)
    else if is_switched p above node then Some (LinkPath (node_path node) (node_revision node) (is_incomplete node))
    else if is_incomplete above || is_incomplete node || not (nat_eq (node_revision node) (node_revision above)) then set_path
    else None
  where
    set_path : Option ReportEntry
    set_path = Some (SetPath (node_revision node) (is_incomplete node))

abbrev pub reported_at : List (Path × BaseNode) → Path × BaseNode → Option (Path × ReportEntry)
reported_at nodes e = option_map (λ entry. (e.0, entry)) (entry_for e.0 (get_in nodes (parent e.0)) (Some e.1))

abbrev pub crawl : List (Path × BaseNode) → ReportView
crawl nodes = record {
  root = node_path (get_in nodes []);
  entries = filter_map (reported_at nodes) nodes;
}
