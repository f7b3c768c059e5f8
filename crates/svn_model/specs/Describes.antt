-- A report that says what a working copy has.
--     Describes h r w      at each path: something present exactly where the report has a source, of its revision and repository path
use Rattle.std.specs.Prelude.{◌≡◌, true, Option, is_some}
use Rattle.svn_types.specs.Names.{Path}
use Rattle.svn_repo.specs.History.{History}
use Rattle.svn_report.specs.Reports.{ReportView}
use Rattle.svn_model.specs.Sources.{Reported, reported, source, governing_revision, starts_empty}
use Rattle.svn_model.specs.declared.base_node.BaseNode.{BaseNode}
use Rattle.svn_model.specs.Nodes.{WorkingCopy, is_present, is_dir, is_incomplete, node_revision, node_path}

pub record DescribesAt (h : History) (s : Reported) (node : Option BaseNode) : Type 0 where
  pub present : is_present node ≡ is_some (source h s)
  pub revision : is_present node ≡ true → node_revision node ≡ governing_revision s
  pub repos_path : is_present node ≡ true → node_path node ≡ s.repos_path
  pub incomplete : is_dir node ≡ true → is_incomplete node ≡ starts_empty s.own

abbrev pub Describes : History → ReportView → WorkingCopy → Type 0
Describes h r w = (p : Path) → DescribesAt h (reported r p) (w p)
