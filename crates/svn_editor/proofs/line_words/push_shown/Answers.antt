use Rattle.std.proofs.Common.{◌++◌, ℕ, List, ap, refl, sym, ◌∙◌}
use Rattle.svn_editor.proofs.PrintedWords.{shown_text, shown_utf8}
use Rattle.svn_editor.proofs.line_words.push_shown.Goals as goal

pub from_utf8_unchecked-requires : goal.from_utf8_unchecked-requires
from_utf8_unchecked-requires c = shown_utf8 c.args.bytes.now c.requires

pub returns : goal.returns
returns c =
    c.in_ok-write_str.ensures.ok refl
    ∙ ap (λ (l : List ℕ). c.args.text.now.bytes ++ l) (c.from_utf8_unchecked.ensures ∙ sym (shown_text c.args.bytes.now c.requires))
