use Rattle.std.proofs.Common.{ℕ, ◌/◌, List, ap, sym, ◌∙◌, arith, drop}
use Rattle.svn_types.specs.LeadingBytes.{leading}
use Rattle.svn_types.proofs.PathHeads.{no_second_word}
use Rattle.svn_types.proofs.ShortWords.{dropped, six_of_eight}
use Rattle.svn_types.proofs.path_head.second_word_of.Goals as goal

pub returns-then-bytes-le-WORD : goal.returns-then-bytes-le-WORD
returns-then-bytes-le-WORD c = sym (no_second_word c.args.bytes.now c.if-bytes-le-WORD.true)

pub returns : goal.returns
returns c =
    ap (λ n. n / 65536) c.word_of.ensures
    ∙ ap (λ (s : List ℕ). leading 8 s / 65536) c.split_at.ensures.back
    ∙ six_of_eight (drop 8 c.args.bytes.now) (dropped 8 c.args.bytes.now (λ i. omega (arith, c.type_inv.bytes i)))
