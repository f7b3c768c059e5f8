-- A report that is made node by node.
--     with_reported r p entry      the report with one more entry, if there is one
--     IsUnswitchedBelow known p above node      if it is known that no path is switched, this one isn't
--     Reports known old p above node new      the node at a path was reported, below the node above it
--     last_of line      the last node of a line, if it has one
--     is_link entry      what the entry says is that the path is switched
--     is_root_alone entries      there is one entry, of a complete directory
use Rattle.std.specs.Prelude.{◌≡◌, ◌++◌, ◌-◌, Bool, true, false, not, List, [], ◌∷◌, length, slice_get, Option, Some, None, option_map}
use Rattle.svn_types.specs.Names.{Path}
use Rattle.svn_types.specs.Paths.{path_eq, last_name}
use Rattle.svn_report.specs.declared.entry.ReportEntry.{ReportEntry}
use Rattle.svn_report.specs.declared.entry.ReportEntry.TheVariants.{SetPath, LinkPath}
use Rattle.svn_report.specs.Reports.{ReportView, with_entry}
use Rattle.svn_model.specs.declared.base_node.BaseNode.{BaseNode}
use Rattle.svn_model.specs.Nodes.{is_present, node_path}
use Rattle.svn_model.specs.Crawl.{entry_for}
use Rattle.svn_wc.specs.Aboves.{IsBelow}

abbrev pub with_reported : ReportView → Path → Option ReportEntry → ReportView
with_reported r p None = r
with_reported r p (Some e) = with_entry r p e

abbrev pub IsUnswitchedBelow : Bool → Path → Option (BaseNode × Bool) → BaseNode → Type 0
IsUnswitchedBelow known p None node = Unit {0}
IsUnswitchedBelow known p (Some above) node =
    known ≡ true → is_present (Some node) ≡ true → path_eq (node_path (Some node)) (node_path (Some above.0) ++ last_name p) ≡ true

abbrev pub Reports : Bool → ReportView → Path → Option (BaseNode × Bool) → BaseNode → ReportView → Type 0
Reports known old p above node new = IsBelow p above → IsUnswitchedBelow known p above node
    → new ≡ with_reported old p (entry_for p (option_map (λ a. a.0) above) (Some node))

abbrev pub is_link : ReportEntry → Bool
is_link (LinkPath repos_path rev start_empty) = true
is_link _ = false

abbrev pub is_complete_set : ReportEntry → Bool
is_complete_set (SetPath rev start_empty) = not start_empty
is_complete_set _ = false

abbrev pub is_root_alone : List (Path × ReportEntry) → Bool
is_root_alone (e ∷ []) = is_complete_set e.1
is_root_alone _ = false

abbrev pub last_of : List (BaseNode × Bool) → Option (BaseNode × Bool)
last_of line = slice_get line (length line - 1)
