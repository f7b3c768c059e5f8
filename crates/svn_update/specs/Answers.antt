-- What the commands of a script print.
--     answer_text copy a      the lines of a result, copy being the working copy after the command
use Rattle.std.specs.Prelude.{ℕ, List, [], ◌∷◌, ◌++◌, Option, Some, None, codes}
use Rattle.std.specs.List.{flat_map}
use Rattle.std.specs.Fmt.{decimal}
use Rattle.svn_types.specs.Names.{Path}
use Rattle.svn_editor.specs.declared.call.Call.{Call}
use Rattle.svn_editor.specs.Lines.{call_line}
use Rattle.svn_report.specs.Lines.{report_text}
use Rattle.svn_model.specs.declared.base_node.BaseNode.{BaseNode}
use Rattle.svn_wc.specs.Lines.{copy_text}
use Rattle.svn_nodes.specs.Lines.{line}
use Rattle.svn_run.specs.Printing.{outcome_words}
use Rattle.svn_update.specs.declared.answer.Answer.{Answer}
use Rattle.svn_update.specs.declared.answer.Answer.TheVariants.{Silent, Committed, Done, Reported, Driven, Ended, Nodes, Refused}
use Rattle.svn_update.specs.FaultNames.{refusal_name}

abbrev pub call_text : Call → List ℕ
call_text c = call_line c ++ 10 ∷ []

abbrev pub copy_lines : Option (List (Path × BaseNode)) → List ℕ
copy_lines None = []
copy_lines (Some nodes) = copy_text nodes

abbrev pub answer_text : Option (List (Path × BaseNode)) → Answer → List ℕ
answer_text copy Silent = []
answer_text copy (Committed rev) = line (codes "committed" ∷ decimal rev ∷ [])
answer_text copy Done = line (codes "ok" ∷ [])
answer_text copy (Reported report) = report_text report
answer_text copy (Driven calls) = flat_map call_text calls
answer_text copy (Ended outcome) = line (outcome_words outcome)
answer_text copy Nodes = copy_lines copy
answer_text copy (Refused refusal) = line (codes "refused" ∷ refusal_name refusal ∷ [])
