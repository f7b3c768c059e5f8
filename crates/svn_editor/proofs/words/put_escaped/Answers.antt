use Rattle.std.proofs.Common.{◌++◌, ap, arith, get_or, List, sym, take, ℕ, ◌∙◌}
use Rattle.std.specs.List.{flat_map}
use Rattle.std.proofs.lemmas.Str.{IsAscii-append}
use Rattle.svn_editor.specs.Words.{escaped}
use Rattle.svn_editor.proofs.PrintedWords.{escaped_more}
use Rattle.svn_editor.proofs.words.put_escaped.Goals as goal

pub loop-byte-preserved : goal.loop-byte-preserved
loop-byte-preserved c =
    let inv = c.loop-byte.invariant in
    let piece = c.args.piece.now in
    let i = c.loop-byte.byte-index in
    let more = escaped_more piece i c.loop-byte-test.true in
    record {
      bounded = omega arith;
      text = c.put_byte-len.ensures.text ∙ ap (λ (l : List ℕ). l ++ escaped (get_or piece i 0)) inv.text ∙ sym more;
      ascii =
          rw more (IsAscii-append (flat_map escaped (take i piece)) (escaped (get_or piece i 0)) inv.ascii c.put_byte-len.ensures.ascii);
    }
