use Rattle.std.proofs.Common.{◌≡◌, take, map, string_bytes}
use Rattle.svn_audit.specs.Printing.{line_text}
use Rattle.svn_answers.proofs.topics.sorted_lines.Given as goal

-- the texts of the lines so far
abbrev pub invariant-loop-line : goal.invariant-loop-line
invariant-loop-line l = map string_bytes l.texts.items ≡ map line_text (take l.line-index l.line-items)
