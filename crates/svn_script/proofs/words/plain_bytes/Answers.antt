use Rattle.std.proofs.Common.{◌≡◌, ◌∷◌, [], bytes_eq, false, sym, ◌∙◌}
use Rattle.svn_script.proofs.Escapes.{plain_word}
use Rattle.svn_script.proofs.words.plain_bytes.Goals as goal

pub returns-in-None : goal.returns-in-None
returns-in-None c =
    let other : bytes_eq c.args.word.now (34 ∷ 34 ∷ []) ≡ false = sym c.is_quoted_nothing.ensures ∙ c.if-is_quoted_nothing.false in
    plain_word c.args.word.now other c.in-None.ensures.place
