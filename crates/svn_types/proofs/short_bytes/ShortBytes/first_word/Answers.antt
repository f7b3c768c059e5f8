use Rattle.std.proofs.Common.{◌∙◌}
use Rattle.svn_types.specs.LeadingBytes.{leading}
use Rattle.svn_types.proofs.ShortWords.{in_room, word_shown}
use Rattle.svn_types.proofs.short_bytes.ShortBytes.first_word.Goals as goal

pub returns : goal.returns
returns g c =
    c.word_at.ensures.word
    ∙ word_shown g.row.N _ 0 _ (in_room g.row.N _ _ c.self.invariant c.word_at.ensures.bytes)
    ∙ (λ i. leading 8 (c.self.view_is i))
