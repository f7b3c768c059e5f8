use Rattle.std.proofs.Common.{◌≡◌, ◌<◌, true, length, arith}
use Rattle.svn_disk.specs.Spared.{has_text, texts_in}
use Rattle.svn_disk.specs.Finding.{has_word}
use Rattle.svn_disk.proofs.KnownWords.{way, row_text}
use Rattle.svn_disk.proofs.known.KnownTexts.of.Goals as goal

pub loop-row-preserved : goal.loop-row-preserved
loop-row-preserved c = λ t has.
    let below : c.loop-row.row-index < length c.args.rows.now = omega arith in
    way (texts_in c.args.rows.now t ≡ true) (has_text c.row-item.result t) (has_word c.loop-row.known t)
    (λ h. row_text c.row-item.result c.args.rows.now c.loop-row.row-index t below c.row-item.is h) (c.loop-row.invariant t) (c.in_ok-add_row.ensures t has)
