use Rattle.std.proofs.Common.{ℕ, ◌+◌, ◌*◌, ◌<◌, List, sym, subst, ◌∙◌, arith, drop}
use Rattle.svn_types.specs.LeadingBytes.{leading}
use Rattle.svn_types.proofs.ShortWords.{leading_split, six_bytes}
use Rattle.svn_types.proofs.path_head.head_of.Goals as goal

pub returns-clause-bytes : goal.returns-clause-bytes
returns-clause-bytes c = λ i. omega (arith, c.type_inv.key i)

pub returns-clause-head : goal.returns-clause-head
returns-clause-head c =
    (λ i. c.word_of.ensures i * 281474976710656 + c.second_word_of.ensures i)
    ∙ (λ i. leading 8 (c.as_bytes-bytes.ensures.value i) * 281474976710656 + leading 6 (drop 8 (c.as_bytes-bytes.ensures.value i)))
    ∙ sym (leading_split 8 6 c.args.key.now)

pub returns-clause-small : goal.returns-clause-small
returns-clause-small c =
    rw c.second_word_of.ensures
    (subst (λ (s : List ℕ). leading 6 (drop 8 s) < 281474976710656) (sym c.as_bytes-bytes.ensures.value)
    (six_bytes c.args.key.now (λ i. omega (arith, c.type_inv.key i))))
