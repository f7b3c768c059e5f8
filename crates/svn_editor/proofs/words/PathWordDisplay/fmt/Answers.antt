use Rattle.std.proofs.Common.{sym, ◌∙◌}
use Rattle.std.proofs.Output.{has_written_of_eq}
use Rattle.svn_editor.proofs.PrintedWords.{printed_names}
use Rattle.svn_editor.proofs.words.PathWordDisplay.fmt.Goals as goal

pub returns-in-Some-clause-writes : goal.returns-in-Some-clause-writes
returns-in-Some-clause-writes g c = λ plain ok.
    has_written_of_eq _ _ _ _ _
    (printed_names c.args.self.now.0.now c.in-Some.names.now c.in-Some.field-0-0.now c.key.ensures.plain
    (sym (c.as_bytes.ensures.value ∙ c.key.ensures.key) ∙ c.in-Some.ensures.cases.0))
    (c.write_names.ensures plain ok)
