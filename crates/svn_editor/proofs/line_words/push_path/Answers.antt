use Rattle.std.proofs.Common.{◌++◌, ℕ, List, ap, sym, ◌∙◌}
use Rattle.svn_editor.proofs.PrintedWords.{printed_names}
use Rattle.svn_editor.proofs.line_words.push_path.Goals as goal

pub returns-in_ok-push_names-in-Some : goal.returns-in_ok-push_names-in-Some
returns-in_ok-push_names-in-Some c =
    c.in_ok-push_names-in-Some.ensures
    ∙ ap (λ (l : List ℕ). c.args.text.now.bytes ++ l)
    (printed_names c.args.path.now c.in-Some.names.now c.in-Some.field-0-0.now c.key.ensures.plain
    (sym (c.as_bytes.ensures.value ∙ c.key.ensures.key) ∙ c.in-Some.ensures.cases.0))
