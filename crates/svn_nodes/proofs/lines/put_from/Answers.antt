use Rattle.std.proofs.Common.{◌++◌, ℕ, List, ap, refl, sym, ◌∙◌}
use Rattle.svn_types.proofs.PathLemmas.{same_path}
use Rattle.svn_editor.specs.Words.{path_word}
use Rattle.svn_nodes.proofs.lines.put_from.Goals as goal

pub returns-in_ok-write_str : goal.returns-in_ok-write_str
returns-in_ok-write_str c =
    c.in_ok-write_str.ensures.ok refl
    ∙ ap (λ (l : List ℕ). c.args.line.now.bytes ++ l)
    (c.as_str.ensures.value ∙ c.requires
    ∙ ap path_word (sym (same_path c.args.from.now c.args.path.now (sym c.eq.ensures ∙ c.if-eq.true))))
