use Rattle.std.proofs.Common.{◌∙◌, sym}
use Rattle.std.specs.Ordering.{nat_cmp}
use Rattle.std.specs.Cmp.Lexicographic.{slice_cmp}
use Rattle.svn_lists.proofs.Orderings.{nat_cmp_unlike}
use Rattle.svn_types.proofs.ShortWords.{in_room, first_words, last_words, last_lengths}
use Rattle.svn_types.proofs.short_bytes.ShortBytes.order.Goals as goal

pub returns-then-one-two : goal.returns-then-one-two
returns-then-one-two g c =
    let one = in_room g.row.N _ _ c.self.invariant c.word_at-one.ensures.bytes in
    let two = in_room g.row.N _ _ c.other.invariant c.word_at-two.ensures.bytes in
    first_words g.row.N _ _ _ _ one two c.cmp.result
    (c.cmp.ensures ∙ (λ i. nat_cmp (c.word_at-one.ensures.word i) (c.word_at-two.ensures.word i)))
    (nat_cmp_unlike _ _ _ c.cmp.ensures c.if-one-two.true)
    ∙ (λ i. slice_cmp nat_cmp (c.self.view_is i) (c.other.view_is i))

pub returns-then-one-two-2 : goal.returns-then-one-two-2
returns-then-one-two-2 g c =
    let one = in_room g.row.N _ _ c.self.invariant c.word_at-one.ensures.bytes in
    let two = in_room g.row.N _ _ c.other.invariant c.word_at-two.ensures.bytes in
    last_words g.row.N _ _ _ _ c.requires.0 c.requires.1 one two
    (sym c.word_at-one.ensures.word ∙ c.if-one-two.false ∙ c.word_at-two.ensures.word)
    c.cmp-then-one-two-2.result
    (c.cmp-then-one-two-2.ensures ∙ (λ i. nat_cmp (c.word_at-one-2.ensures.word i) (c.word_at-two-2.ensures.word i)))
    (nat_cmp_unlike _ _ _ c.cmp-then-one-two-2.ensures c.if-one-two-2.true)
    ∙ (λ i. slice_cmp nat_cmp (c.self.view_is i) (c.other.view_is i))

pub returns : goal.returns
returns g c =
    let one = in_room g.row.N _ _ c.self.invariant c.word_at-one.ensures.bytes in
    let two = in_room g.row.N _ _ c.other.invariant c.word_at-two.ensures.bytes in
    c.cmp-2.ensures
    ∙ last_lengths g.row.N _ _ _ _ c.requires.0 c.requires.1 one two
    (sym c.word_at-one.ensures.word ∙ c.if-one-two.false ∙ c.word_at-two.ensures.word)
    (sym c.word_at-one-2.ensures.word ∙ c.if-one-two-2.false ∙ c.word_at-two-2.ensures.word)
    ∙ (λ i. slice_cmp nat_cmp (c.self.view_is i) (c.other.view_is i))
