use Rattle.std.specs.List.{flat_map}
use Rattle.std.proofs.lemmas.Str.{IsUtf8-from_ascii}
use Rattle.svn_editor.specs.Words.{escaped}
use Rattle.svn_editor.proofs.words.write_piece.Goals as goal

pub from_utf8_unchecked-requires : goal.from_utf8_unchecked-requires
from_utf8_unchecked-requires g c =
    rw c.put_escaped-len.ensures.text (IsUtf8-from_ascii (flat_map escaped c.args.piece.now) c.put_escaped-len.ensures.ascii)
