-- How a line of an update is printed.
--     line_text line      the letters of the two columns, three spaces and the path
use Rattle.std.specs.Prelude.{ℕ, Bool, true, false, List, ◌++◌, codes}
use Rattle.svn_types.specs.PathTexts.{shown_path}
use Rattle.svn_audit.specs.declared.lines.NodeChange.{NodeChange}
use Rattle.svn_audit.specs.declared.lines.NodeChange.TheVariants.{Unchanged, Added, Deleted, Updated}
use Rattle.svn_audit.specs.declared.lines.UpdateLine.{UpdateLine}

abbrev pub node_letter : NodeChange → List ℕ
node_letter Unchanged = codes " "
node_letter Added = codes "A"
node_letter Deleted = codes "D"
node_letter Updated = codes "U"

abbrev pub props_letter : Bool → List ℕ
props_letter true = codes "U"
props_letter false = codes " "

abbrev pub line_text : UpdateLine → List ℕ
line_text l = node_letter l.node ++ props_letter l.props ++ codes "   " ++ shown_path l.path
