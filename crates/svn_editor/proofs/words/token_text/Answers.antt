use Rattle.std.proofs.Common.{arith, ◌∙◌}
use Rattle.svn_editor.proofs.PrintedWords.{few_digits, token_at_end, token_utf8}
use Rattle.svn_editor.proofs.words.token_text.Goals as goal

pub write_digits-start-requires : goal.write_digits-start-requires
write_digits-start-requires c = let few = few_digits c.args.number c.ranges.number.fits in (omega arith, omega arith)

pub overflow_sub-start : goal.overflow_sub-start
overflow_sub-start c = let few = few_digits c.args.number c.ranges.number.fits in omega arith

pub from_utf8_unchecked-requires : goal.from_utf8_unchecked-requires
from_utf8_unchecked-requires c =
    let few = few_digits c.args.number c.ranges.number.fits in
    let w = c.write_digits-start in
    rw (token_at_end c.args.text.now w.new.buf w.result c.args.number (omega arith) (omega arith) (omega arith) w.ensures.written)
    (token_utf8 c.args.number c.ranges.number.fits)

pub returns : goal.returns
returns c =
    let few = few_digits c.args.number c.ranges.number.fits in
    let w = c.write_digits-start in
    c.from_utf8_unchecked.ensures
    ∙ token_at_end c.args.text.now w.new.buf w.result c.args.number (omega arith) (omega arith) (omega arith) w.ensures.written
