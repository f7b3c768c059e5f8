use Rattle.std.proofs.Common.{sym, ◌∙◌}
use Rattle.std.proofs.Output.{has_written_of_eq}
use Rattle.svn_editor.proofs.PrintedWords.{shown_text, shown_utf8}
use Rattle.svn_editor.proofs.words.write_shown.Goals as goal

pub returns : goal.returns
returns g c = λ plain ok.
    has_written_of_eq _ _ _ _ _ (c.from_utf8_unchecked.ensures ∙ sym (shown_text c.args.bytes.now c.requires))
    (c.write_str.ensures.writes plain ok)

pub from_utf8_unchecked-requires : goal.from_utf8_unchecked-requires
from_utf8_unchecked-requires g c = shown_utf8 c.args.bytes.now c.requires
